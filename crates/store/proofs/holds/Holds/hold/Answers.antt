use Rattle.std.proofs.Common.{◌∙◌, BTreeMap, ℕ, inr, refl, set, ap, subst, sym}
use Rattle.std.specs.Map.{values_of}
use Rattle.std.proofs.lemmas.Map.Steps.{set_value_same}
use Rattle.store.specs.declared.holds.HeldRow.{HeldRow}
use Rattle.store.specs.inside.HeldRows.{IsHeldMore, IsUnheld, with_holders}
use Rattle.store.proofs.KeyedRows.{found, is_sector, keys_written, none_found, row_found, row_written}
use Rattle.store.proofs.holds.Holds.hold.Goals as goal

pub add-requires : goal.add-requires
add-requires c =
    subst (λ (rows : BTreeMap ℕ HeldRow). IsUnheld (values_of rows.entries) c.args.placed.now.at) (sym c.get_mut.follows.holds-at-none)
    (none_found c.self.inside.rows.entries c.self.invariant c.args.placed.now.at (sym c.in_default.ensures.value))

pub invariant_of-self-in_default-checked_add : goal.invariant_of-self-in_default-checked_add
invariant_of-self-in_default-checked_add c =
    let row = c.in-Some.hold.now in
    keys_written c.self.inside.rows.entries c.self.invariant c.args.placed.now.at row (sym c.in-Some.ensures.value)
    (c.get_mut.follows.lender row).entries row (c.get_mut.follows.holds row).0 refl

pub returns-in_default-checked_add-clause-err : goal.returns-in_default-checked_add-clause-err
returns-in_default-checked_add-clause-err c =
    let es = c.self.inside.rows.entries in
    let row = c.in-Some.hold.now in
    ap values_of ((c.get_mut.follows.holds row).0 ∙ set_value_same (is_sector c.args.placed.now.at) es row (sym c.in-Some.ensures.value)) ∙ c.self.view_is

pub invariant_of-self-2 : goal.invariant_of-self-2
invariant_of-self-2 c =
    let row = c.in-Some.hold.now in
    let more = with_holders c.in-Some-checked_add.holders row in
    keys_written c.self.inside.rows.entries c.self.invariant c.args.placed.now.at row (sym c.in-Some.ensures.value)
    (c.get_mut.follows.lender more).entries more (c.get_mut.follows.holds more).0 refl

pub returns-clause-ok : goal.returns-clause-ok
returns-clause-ok c =
    let es = c.self.inside.rows.entries in
    let sector = c.args.placed.now.at in
    let row = c.in-Some.hold.now in
    let more = with_holders c.in-Some-checked_add.holders row in
    let new = (c.get_mut.follows.lender more).entries in
    let is = sym c.in-Some.ensures.value in
    let place = (found es c.self.invariant sector row is).place in
    inr (subst (λ old. IsHeldMore old (values_of new) sector) c.self.view_is (record {
      place = place;
      hold = row;
      at = row_found es c.self.invariant sector row is;
      is = row_written es c.self.invariant sector row is new more (c.get_mut.follows.holds more).0
          ∙ ap (λ n. set (values_of es) place (with_holders n row)) c.in-Some-checked_add.ensures.1;
    }))
