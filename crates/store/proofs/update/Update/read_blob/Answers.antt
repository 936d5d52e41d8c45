use Rattle.std.proofs.Common.{◌<◌, All, length, Err, sym, subst}
use Rattle.passes.specs.Bytes.{IsOnDisk}
use Rattle.store.specs.declared.placed_entry.PlacedEntry.{PlacedEntry}
use Rattle.store.specs.declared.refusal.StoreRefusal.TheVariants.{Reopen}
use Rattle.store.specs.Draft.{Drafted, ReadsDraft}
use Rattle.store.specs.Stands.{extents_of}
use Rattle.store.specs.inside.Draft.{drafting}
use Rattle.store.proofs.DraftReads.{draft_read, draft_refused, drafted_on_disk}
use Rattle.store.proofs.update.Update.read_blob.Goals as goal

pub read_file-requires-clause-inside : goal.read_file-requires-clause-inside
read_file-requires-clause-inside g c =
    let lt = subst (λ u. c.args.position < length u.entries) (sym c.self.view_is) c.requires in
    subst (λ (placed : PlacedEntry). All (IsOnDisk (g.D.Disk.facts c.self.inside.disk).sectors) (extents_of placed.entry)) (sym c.index-placed.ensures)
    (drafted_on_disk c.self.invariant c.args.position c.index-placed.result.now lt)

pub returns-then-self : goal.returns-then-self
returns-then-self g c =
    subst (λ u. ReadsDraft g.D.Disk.facts u u c.args.position (Err Reopen)) c.self.view_is
    (draft_refused g.D.Disk.facts (drafting c.self.inside.disk c.self.inside.kept c.self.inside.draft) c.args.position c.if-self.true)

pub returns : goal.returns
returns g c =
    let before : Drafted g.row.D.Denot = drafting c.self.inside.disk c.self.inside.kept c.self.inside.draft in
    let after : Drafted g.row.D.Denot = drafting c.read_file.new.disk c.self.inside.kept c.self.inside.draft in
    let lt = subst (λ u. c.args.position < length u.entries) (sym c.self.view_is) c.requires in
    let read = c.read_file.ensures in
    subst (λ u. ReadsDraft g.D.Disk.facts u after c.args.position c.read_file.result) c.self.view_is
    (draft_read g.D.Disk.facts before c.read_file.new.disk c.args.position c.index-placed.result.now c.if-self.false lt c.index-placed.ensures
    (λ honest. g.met.D.Disk.holds_now _ honest) read.calls read.same
    c.read_file.result read.all_calls read.read read.length read.refused)
