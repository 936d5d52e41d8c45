use Rattle.std.proofs.Common.{◌≡◌, ◌<◌, ◌≤◌, List, length, sym, subst}
use Rattle.std.specs.Prelude.{IsNone, IfSome, slice_index_or}
use Rattle.store.specs.declared.placed_entry.PlacedEntry.{PlacedEntry}
use Rattle.states.specs.Limits.{most_libraries}
use Rattle.store.specs.Draft.{IsDraftedAt}
use Rattle.store.specs.Stands.{name_of}
use Rattle.store.proofs.DraftReads.{position_drafted}
use Rattle.store.proofs.update.Update.position.Goals as goal

pub returns-clause-state : goal.returns-clause-state
returns-clause-state g c s d at =
    let here = subst (λ u. IsDraftedAt g.D.Disk.facts u s d) (sym c.self.view_is) at in
    let none = subst (λ (l : List PlacedEntry). IsNone c.position_of.result → (k : _) (d : PlacedEntry) → k < length l
    → name_of (slice_index_or l k d).entry ≡ c.args.name.now → ⊥) c.deref.ensures.value c.position_of.ensures.none in
    let some = subst (λ (l : List PlacedEntry). IfSome c.position_of.result
    (λ i. (i < length l) × ((d : PlacedEntry) → name_of (slice_index_or l i d).entry ≡ c.args.name.now))) c.deref.ensures.value
    c.position_of.ensures.some in
    position_drafted g.D.Disk.facts here c.args.name.now c.position_of.result c.self.invariant.list.names none some

pub returns-clause-few : goal.returns-clause-few
returns-clause-few g c = subst (λ u. length u.entries ≤ most_libraries) c.self.view_is c.self.invariant.list.few
