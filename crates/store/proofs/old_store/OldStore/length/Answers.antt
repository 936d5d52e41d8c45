use Rattle.std.proofs.Common.{◌<◌, length, sym, subst, ap, ◌∙◌}
use Rattle.store.specs.declared.placed_entry.PlacedEntry.{PlacedEntry}
use Rattle.roots.specs.declared.version.Version.TheVariants.{One}
use Rattle.store.specs.Opened.{IsAtBy}
use Rattle.store.specs.Names.{IsFileSize}
use Rattle.store.proofs.Queries.{length_is}
use Rattle.store.proofs.old_store.OldStore.length.Goals as goal

pub returns-clause-state : goal.returns-clause-state
returns-clause-state g c s at =
    let here = subst (λ store. IsAtBy One g.D.Disk.facts store s) (sym c.self.view_is) at in
    let lt = subst (λ store. c.args.position < length store.entries) (sym c.self.view_is) c.requires in
    ap (λ (p : PlacedEntry). p.entry.file_length) c.index.ensures
    ∙ length_is g.D.Disk.facts One _ s (g.met.D.Disk.holds_now _) here (g.met.D.Disk.whole_sectors _) c.self.invariant.0.kept.entries_fit c.args.position c.index.result.now lt

pub returns-clause-size : goal.returns-clause-size
returns-clause-size g c =
    let lt = subst (λ store. c.args.position < length store.entries) (sym c.self.view_is) c.requires in
    subst (λ (p : PlacedEntry). IsFileSize p.entry.file_length) (sym c.index.ensures) (c.self.invariant.0.kept.entries_fit c.args.position c.index.result.now lt).file_length
