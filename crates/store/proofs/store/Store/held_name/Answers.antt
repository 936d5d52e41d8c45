use Rattle.std.proofs.Common.{rules, ◌≡◌, ◌∙◌, refl, sym, ap, subst, arith}
use Rattle.std.proofs.lemmas.Bool.{true≢false}
use Rattle.store.specs.declared.placed_entry.PlacedEntry.{PlacedEntry}
use Rattle.store.specs.Holds.{IsHeldBy, holders_of}
use Rattle.store.specs.Stands.{name_of}
use Rattle.store.proofs.Holding.{held_fits}
use Rattle.store.proofs.HeldRows.{by_one, by_some, holders_unheld}
use Rattle.store.proofs.store.Store.held_name.Goals as goal

pub name_bytes-requires : goal.name_bytes-requires
name_bytes-requires g c = held_fits c.self.invariant.0 c.in_ok-placed.ensures.some

pub returns-in_err-placed-clause-none : goal.returns-in_err-placed-clause-none
returns-in_err-placed-clause-none g c =
    let none = holders_unheld c.self.inside.kept.held c.held.inside.at (c.in_err-placed.ensures.none refl) in
    (λ _. subst (λ at. holders_of c.args.self.now.held at ≡ 0) c.held.view_is (subst (λ store. holders_of store.held c.held.inside.at ≡ 0) c.self.view_is none), λ _. search rules)

pub returns-clause-none : goal.returns-clause-none
returns-clause-none g c = (
  λ is. absurd (true≢false is),
  λ none.
      let here : holders_of c.self.inside.kept.held c.held.inside.at ≡ 0 =
      subst (λ store. holders_of store.held c.held.inside.at ≡ 0) (sym c.self.view_is)
      (subst (λ at. holders_of c.args.self.now.held at ≡ 0) (sym c.held.view_is) none) in
      absurd (omega (arith, here, by_some c.self.invariant.0.rows c.in_ok-placed.ensures.some)),
)

pub returns-clause-some : goal.returns-clause-some
returns-clause-some g c = λ placed by.
    let here : IsHeldBy c.self.inside.kept.held c.held.inside.at placed =
    subst (λ store. IsHeldBy store.held c.held.inside.at placed) (sym c.self.view_is)
    (subst (λ at. IsHeldBy c.args.self.now.held at placed) (sym c.held.view_is) by) in
    c.name_bytes.ensures ∙ ap (λ (p : PlacedEntry). name_of p.entry) (by_one c.self.invariant.0.rows.own c.in_ok-placed.ensures.some here)
