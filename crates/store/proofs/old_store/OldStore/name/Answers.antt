use Rattle.std.proofs.Common.{◌<◌, length, sym, subst, ◌∙◌, ap}
use Rattle.store.specs.declared.placed_entry.PlacedEntry.{PlacedEntry}
use Rattle.store.specs.Names.{IsName}
use Rattle.store.specs.Stands.{name_of}
use Rattle.store.proofs.Libraries.{name_fits}
use Rattle.store.proofs.old_store.OldStore.name.Goals as goal

pub returns-clause-form : goal.returns-clause-form
returns-clause-form g c =
    let lt = subst (λ store. c.args.position < length store.entries) (sym c.self.view_is) c.requires in
    subst IsName (sym (ap (λ (p : PlacedEntry). name_of p.entry) c.index.ensures) ∙ sym c.name_bytes.ensures)
    (name_fits _ (c.self.invariant.0.kept.entries_fit c.args.position c.index.result.now lt))
