use Rattle.std.proofs.Common.{◌<◌, length, sym, subst, ap, ◌∙◌}
use Rattle.store.specs.declared.placed_entry.PlacedEntry.{PlacedEntry}
use Rattle.store.specs.Draft.{IsDraftedAt}
use Rattle.store.specs.Names.{IsName}
use Rattle.store.specs.Stands.{name_of}
use Rattle.store.proofs.DraftReads.{name_drafted}
use Rattle.store.proofs.Libraries.{name_fits}
use Rattle.store.proofs.update.Update.name.Goals as goal

pub returns-clause-form : goal.returns-clause-form
returns-clause-form g c =
    let lt = subst (λ u. c.args.position < length u.entries) (sym c.self.view_is) c.requires in
    subst IsName (sym (ap (λ (p : PlacedEntry). name_of p.entry) c.index.ensures) ∙ sym c.name_bytes.ensures)
    (name_fits _ (c.self.invariant.list.fit c.args.position c.index.result.now lt))

pub returns-clause-state : goal.returns-clause-state
returns-clause-state g c s d at =
    let lt = subst (λ u. c.args.position < length u.entries) (sym c.self.view_is) c.requires in
    c.name_bytes.ensures ∙ ap (λ (p : PlacedEntry). name_of p.entry) c.index.ensures
    ∙ name_drafted g.D.Disk.facts (subst (λ u. IsDraftedAt g.D.Disk.facts u s d) (sym c.self.view_is) at) c.args.position c.index.result.now lt
