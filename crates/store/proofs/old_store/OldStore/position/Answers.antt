use Rattle.std.proofs.Common.{◌≡◌, ◌<◌, List, length, sym, subst}
use Rattle.std.specs.Prelude.{IsNone, IfSome, slice_index_or}
use Rattle.store.specs.declared.placed_entry.PlacedEntry.{PlacedEntry}
use Rattle.roots.specs.declared.version.Version.TheVariants.{One}
use Rattle.store.specs.Opened.{IsAtBy}
use Rattle.store.specs.Stands.{name_of}
use Rattle.store.proofs.Queries.{position_is}
use Rattle.store.proofs.old_store.OldStore.position.Goals as goal

pub returns-clause-state : goal.returns-clause-state
returns-clause-state g c s at =
    let here = subst (λ store. IsAtBy One g.D.Disk.facts store s) (sym c.self.view_is) at in
    let none = subst (λ (l : List PlacedEntry). IsNone c.position_of.result → (k : _) (d : PlacedEntry) → k < length l
    → name_of (slice_index_or l k d).entry ≡ c.args.name.now → ⊥) c.deref.ensures.value c.position_of.ensures.none in
    let some = subst (λ (l : List PlacedEntry). IfSome c.position_of.result
    (λ i. (i < length l) × ((d : PlacedEntry) → name_of (slice_index_or l i d).entry ≡ c.args.name.now))) c.deref.ensures.value
    c.position_of.ensures.some in
    position_is g.D.Disk.facts One _ s (g.met.D.Disk.holds_now _) here c.args.name.now c.position_of.result c.self.invariant.0.kept.names none some
