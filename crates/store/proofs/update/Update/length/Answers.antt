use Rattle.std.proofs.Common.{◌<◌, length, refl, sym, subst, ap, ◌∙◌}
use Rattle.store.specs.declared.placed_entry.PlacedEntry.{PlacedEntry}
use Rattle.store.specs.Draft.{IsDraftedAt}
use Rattle.store.specs.Names.{IsFileSize}
use Rattle.store.proofs.DraftReads.{length_drafted}
use Rattle.store.proofs.update.Update.length.Goals as goal

pub returns-clause-size : goal.returns-clause-size
returns-clause-size g c =
    let lt = subst (λ u. c.args.position < length u.entries) (sym c.self.view_is) c.requires in
    subst (λ (p : PlacedEntry). IsFileSize p.entry.file_length) (sym c.index.ensures) (c.self.invariant.list.fit c.args.position c.index.result.now lt).file_length

pub returns-clause-state : goal.returns-clause-state
returns-clause-state g c s d at =
    let here = subst (λ u. IsDraftedAt g.D.Disk.facts u s d) (sym c.self.view_is) at in
    let lt = subst (λ u. c.args.position < length u.entries) (sym c.self.view_is) c.requires in
    ap (λ (p : PlacedEntry). p.entry.file_length) c.index.ensures
    ∙ length_drafted g.D.Disk.facts here (λ honest. g.met.D.Disk.holds_now _ honest) (λ honest. g.met.D.Disk.whole_sectors _ honest) c.self.invariant refl c.args.position c.index.result.now lt
