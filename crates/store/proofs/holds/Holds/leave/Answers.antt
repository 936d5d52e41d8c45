use Rattle.std.proofs.Common.{◌∙◌, BTreeMap, ℕ, ap, refl, subst, sym}
use Rattle.std.specs.Map.{values_of}
use Rattle.store.specs.declared.holds.HeldRow.{HeldRow}
use Rattle.store.specs.inside.HeldRows.{IsLeft, IsUnheld, unlisted}
use Rattle.store.proofs.KeyedRows.{found, keys_written, none_found, row_found, row_written}
use Rattle.store.proofs.holds.Holds.leave.Goals as goal

pub returns-in_default-clause-no : goal.returns-in_default-clause-no
returns-in_default-clause-no c = λ _. (
  subst (λ rows. IsUnheld rows c.args.sector) c.self.view_is (none_found c.self.inside.rows.entries c.self.invariant c.args.sector (sym c.in_default.ensures.value)),
  ap (λ (rows : BTreeMap ℕ HeldRow). values_of rows.entries) c.get_mut.follows.holds-at-none ∙ c.self.view_is,
)

pub invariant_of-self-2 : goal.invariant_of-self-2
invariant_of-self-2 c =
    let row = c.in-Some.hold.now in
    let left = unlisted row in
    keys_written c.self.inside.rows.entries c.self.invariant c.args.sector row (sym c.in-Some.ensures.value)
    (c.get_mut.follows.lender left).entries left (c.get_mut.follows.holds left).0 refl

pub returns-clause-yes : goal.returns-clause-yes
returns-clause-yes c = λ _.
    let es = c.self.inside.rows.entries in
    let row = c.in-Some.hold.now in
    let left = unlisted row in
    let new = (c.get_mut.follows.lender left).entries in
    let is = sym c.in-Some.ensures.value in
    subst (λ old. IsLeft old (values_of new) c.args.sector) c.self.view_is (record {
      place = (found es c.self.invariant c.args.sector row is).place;
      hold = row;
      at = row_found es c.self.invariant c.args.sector row is;
      is = row_written es c.self.invariant c.args.sector row is new left (c.get_mut.follows.holds left).0;
    })
