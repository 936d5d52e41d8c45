use Rattle.std.proofs.Common.{refl, subst, sym}
use Rattle.std.specs.Map.{values_of}
use Rattle.store.specs.inside.HeldRows.{IsHeldOnce, IsUnheld, first_row}
use Rattle.store.proofs.KeyedRows.{keys_put, put, put_inside, row_put}
use Rattle.store.proofs.holds.Holds.add.Goals as goal

pub invariant_of-self-2 : goal.invariant_of-self-2
invariant_of-self-2 c =
    let placed = c.args.placed.now in
    let absent = subst (λ rows. IsUnheld rows placed.at) (sym c.self.view_is) c.requires in
    keys_put c.self.inside.rows.entries c.self.invariant placed.at (first_row placed) absent c.insert.new.self.entries c.in-Ok.ensures.entries refl

pub returns-clause-ok : goal.returns-clause-ok
returns-clause-ok c =
    let placed = c.args.placed.now in
    let es = c.self.inside.rows.entries in
    let own = c.self.invariant in
    let new = c.insert.new.self.entries in
    let is = c.in-Ok.ensures.entries in
    let absent = subst (λ rows. IsUnheld rows placed.at) (sym c.self.view_is) c.requires in
    subst (λ old. IsHeldOnce old (values_of new) placed) c.self.view_is (record {
      absent = absent;
      place = (put es own placed.at (first_row placed) absent new is).place;
      inside = put_inside es own placed.at (first_row placed) absent new is;
      is = row_put es own placed.at (first_row placed) absent new is;
    })
