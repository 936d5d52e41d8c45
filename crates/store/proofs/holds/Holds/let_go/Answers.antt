use Rattle.std.proofs.Common.{◌≡◌, ◌∙◌, ◌-◌, BTreeMap, inl, inr, refl, ℕ, IfSome, ap, subst, sym, arith}
use Rattle.std.specs.Map.{lookup, remove_entry, values_of}
use Rattle.std.proofs.lemmas.Map.Steps.{set_value_same}
use Rattle.store.specs.declared.holds.HeldRow.{HeldRow}
use Rattle.store.specs.inside.HeldRows.{IsHeldLess, IsLetGo, IsUnheld, with_holders}
use Rattle.store.proofs.KeyedRows.{found, is_sector, keys_removed, keys_written, none_found, row_found, row_removed, row_written}
use Rattle.store.proofs.holds.Holds.let_go.Goals as goal

pub invariant_of-self-then-hold-gt1 : goal.invariant_of-self-then-hold-gt1
invariant_of-self-then-hold-gt1 c =
    let row = c.in_ok-hold.hold.now in
    let less = with_holders (row.holders - 1) row in
    keys_written c.self.inside.rows.entries c.self.invariant c.args.sector row (sym c.in_ok-hold.ensures.value)
    (c.get_mut.follows.lender less).entries less (c.get_mut.follows.holds less).0 refl

pub returns-then-hold-gt1-clause-none : goal.returns-then-hold-gt1-clause-none
returns-then-hold-gt1-clause-none c = λ _.
    let es = c.self.inside.rows.entries in
    let row = c.in_ok-hold.hold.now in
    let less = with_holders (row.holders - 1) row in
    let new = (c.get_mut.follows.lender less).entries in
    let is = sym c.in_ok-hold.ensures.value in
    inl (subst (λ old. IsHeldLess old (values_of new) c.args.sector) c.self.view_is (record {
      place = (found es c.self.invariant c.args.sector row is).place;
      hold = row;
      at = row_found es c.self.invariant c.args.sector row is;
      holders = row.holders - 1;
      some = omega (arith, c.if-hold-gt1.true);
      was = omega (arith, c.if-hold-gt1.true);
      is = row_written es c.self.invariant c.args.sector row is new less (c.get_mut.follows.holds less).0;
    }))

pub returns-in_err-hold-clause-none : goal.returns-in_err-hold-clause-none
returns-in_err-hold-clause-none c = λ _. inr (
  subst (λ rows. IsUnheld rows c.args.sector) c.self.view_is (none_found c.self.inside.rows.entries c.self.invariant c.args.sector (sym c.in_err-hold.ensures.value)),
  ap (λ (rows : BTreeMap ℕ HeldRow). values_of rows.entries) c.get_mut.follows.holds-at-none ∙ c.self.view_is,
)

-- looking up a row without writing to it leaves the table unchanged
still : (c : goal.After-remove) → (c.get_mut.follows.lender c.in_ok-hold.hold.now).entries ≡ c.self.inside.rows.entries
still c =
    let row = c.in_ok-hold.hold.now in
    (c.get_mut.follows.holds row).0 ∙ set_value_same (is_sector c.args.sector) c.self.inside.rows.entries row (sym c.in_ok-hold.ensures.value)

removed : (c : goal.After-remove) → c.remove.new.self.entries ≡ remove_entry (is_sector c.args.sector) c.self.inside.rows.entries
removed c = c.remove.ensures.entries ∙ ap (remove_entry (is_sector c.args.sector)) (still c)

pub invariant_of-self-2 : goal.invariant_of-self-2
invariant_of-self-2 c =
    keys_removed c.self.inside.rows.entries c.self.invariant c.args.sector c.in_ok-hold.hold.now (sym c.in_ok-hold.ensures.value) c.remove.new.self.entries (removed c)

pub returns-clause-some : goal.returns-clause-some
returns-clause-some c =
    let es = c.self.inside.rows.entries in
    let row = c.in_ok-hold.hold.now in
    let new = c.remove.new.self.entries in
    let is = sym c.in_ok-hold.ensures.value in
    let gone : IsLetGo (values_of es) (values_of new) c.args.sector row = record {
      place = (found es c.self.invariant c.args.sector row is).place;
      at = row_found es c.self.invariant c.args.sector row is;
      last = omega (arith, c.if-hold-gt1.false);
      is = row_removed es c.self.invariant c.args.sector row is new (removed c);
    } in
    subst (λ result. IfSome result (IsLetGo c.args.self.now (values_of new) c.args.sector)) (sym (c.remove.ensures.value ∙ ap (lookup (is_sector c.args.sector)) (still c) ∙ is))
    (subst (λ old. IsLetGo old (values_of new) c.args.sector row) c.self.view_is gone)
