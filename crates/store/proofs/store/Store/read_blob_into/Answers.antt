use Rattle.std.proofs.Common.{◌<◌, All, length, Err, sym, subst}
use Rattle.passes.specs.Bytes.{IsOnDisk}
use Rattle.roots.specs.declared.version.Version.TheVariants.{Two}
use Rattle.store.specs.declared.placed_entry.PlacedEntry.{PlacedEntry}
use Rattle.store.specs.declared.refusal.StoreRefusal.TheVariants.{Reopen}
use Rattle.store.specs.Opened.{Opened}
use Rattle.store.specs.Reads.{ReadsBlob}
use Rattle.store.specs.Stands.{extents_of}
use Rattle.store.proofs.BlobReads.{blob_read, blob_refused}
use Rattle.store.proofs.Within.{entry_on_disk}
use Rattle.store.proofs.store.Store.read_blob_into.Goals as goal

pub read_file-requires-clause-inside : goal.read_file-requires-clause-inside
read_file-requires-clause-inside g c =
    let lt = subst (λ store. c.args.position < length store.entries) (sym c.self.view_is) c.requires in
    let kept = c.self.invariant.0 in
    let root = c.self.inside.kept.root in
    subst (λ n. All (IsOnDisk n) (extents_of c.index.result.now.entry)) (sym c.self.invariant.2)
    (subst (λ (placed : PlacedEntry). All (IsOnDisk root.sectors) (extents_of placed.entry)) (sym c.index.ensures)
    (entry_on_disk root.sectors root c.self.inside.kept.entries.items kept.apart kept.entries_fit c.args.position c.index.result.now lt))

pub returns-then-self : goal.returns-then-self
returns-then-self g c =
    let before : Opened g.row.D.Denot =
    record { disk = c.self.inside.disk; root = c.self.inside.kept.root; entries = c.self.inside.kept.entries.items; held = c.self.inside.kept.held; failed = c.self.inside.kept.failed } in
    subst (λ store. ReadsBlob Two g.D.Disk.facts store store c.args.position (Err Reopen)) c.self.view_is
    (blob_refused Two g.D.Disk.facts before c.args.position c.if-self.true)

pub returns : goal.returns
returns g c =
    let before : Opened g.row.D.Denot =
    record { disk = c.self.inside.disk; root = c.self.inside.kept.root; entries = c.self.inside.kept.entries.items; held = c.self.inside.kept.held; failed = c.self.inside.kept.failed } in
    let after : Opened g.row.D.Denot =
    record { disk = c.read_file.new.disk; root = c.self.inside.kept.root; entries = c.self.inside.kept.entries.items; held = c.self.inside.kept.held; failed = c.self.inside.kept.failed } in
    let lt = subst (λ store. c.args.position < length store.entries) (sym c.self.view_is) c.requires in
    let read = c.read_file.ensures in
    subst (λ store. ReadsBlob Two g.D.Disk.facts store after c.args.position c.read_file.result) c.self.view_is
    (blob_read Two g.D.Disk.facts before c.read_file.new.disk c.args.position c.index.result.now c.if-self.false lt c.index.ensures
    (λ honest. g.met.D.Disk.holds_now _ honest) read.calls read.same
    c.read_file.result read.all_calls read.read read.length read.refused)
