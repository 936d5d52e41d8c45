use Rattle.std.proofs.Common.{◌<◌, List, length, get_or, subst, arith}
use Rattle.std.specs.Int.{div_ceil}
use Rattle.sector_disk.specs.Disk.{sector_bytes, AreCallsAtMost, AreCallsExactly}
use Rattle.store.specs.declared.placed_entry.PlacedEntry.{PlacedEntry}
use Rattle.store.proofs.UsedAlone.{no_entry}
use Rattle.store.specs.IsRead.{file_sectors}
use Rattle.store.proofs.IsReadLemmas.{read_one}
use Rattle.registry.specs.declared.source.Source.{Source}
use Rattle.registry.specs.inside.Source.{offered}
use Rattle.registry.proofs.Sources.{sized}
use Rattle.registry.proofs.reading.read_at.Goals as goal

pub returns-in-Current-clause-read : goal.returns-in-Current-clause-read
returns-in-Current-clause-read g c = read_one c.read_blob.ensures

pub returns-in-Current-clause-all_calls : goal.returns-in-Current-clause-all_calls
returns-in-Current-clause-all_calls g c entries has =
    sized (λ n. AreCallsExactly (div_ceil n sector_bytes) (g.D.Disk.facts c.args.store.now.disk) (g.D.Disk.facts c.read_blob.new.self.disk))
    (get_or c.args.store.now.entries c.args.position no_entry).entry.file_length c.read_blob.result (c.read_blob.ensures.size no_entry) (c.read_blob.ensures.all_calls no_entry)

pub returns-in-Current-clause-calls : goal.returns-in-Current-clause-calls
returns-in-Current-clause-calls g c = rw c.in-Current.is (λ entries has d.
    subst (λ (es : List PlacedEntry). AreCallsAtMost (file_sectors (get_or es c.args.position d)) (g.D.Disk.facts c.args.store.now.disk)
    (g.D.Disk.facts c.read_blob.new.self.disk)) has (c.read_blob.ensures.calls d))

pub returns-in-Held-clause-read : goal.returns-in-Held-clause-read
returns-in-Held-clause-read g c = record {
  leaves = c.read.ensures.any_moment;
  same = c.read.ensures.same;
  unchanged = c.read.ensures.unchanged;
  root = c.read.ensures.kept.0;
  entries = c.read.ensures.kept.1;
  held = c.read.ensures.kept.2;
  failed = c.read.ensures.kept.3;
  calls = c.read.ensures.called;
}

pub returns-in-Held-clause-whole : goal.returns-in-Held-clause-whole
returns-in-Held-clause-whole g c = rw c.in-Held.is (λ s has.
    let inside : c.args.position < length c.in-Held.snapshot.now.handles = subst (λ (o : Source). c.args.position < offered o c.args.store.now) c.in-Held.is c.requires in
    let is = has.1.each c.args.position (omega (arith, has.1.count, inside)) in
    c.read.ensures.known is.placed is.by)

pub returns-in-Held-clause-all_calls : goal.returns-in-Held-clause-all_calls
returns-in-Held-clause-all_calls g c = rw c.in-Held.is (λ entries has.
    let inside : c.args.position < length c.in-Held.snapshot.now.handles = subst (λ (o : Source). c.args.position < offered o c.args.store.now) c.in-Held.is c.requires in
    let by = has.held.each c.args.position no_entry (omega (arith, has.held.count, inside)) in
    sized (λ n. AreCallsExactly (div_ceil n sector_bytes) (g.D.Disk.facts c.args.store.now.disk) (g.D.Disk.facts c.read.new.store.disk))
    (get_or entries c.args.position no_entry).entry.file_length c.read.result (c.read.ensures.size (get_or entries c.args.position no_entry) by)
    (c.read.ensures.all_calls (get_or entries c.args.position no_entry) by))

pub returns-in-Held-clause-calls : goal.returns-in-Held-clause-calls
returns-in-Held-clause-calls g c = rw c.in-Held.is (λ entries has d.
    let inside : c.args.position < length c.in-Held.snapshot.now.handles = subst (λ (o : Source). c.args.position < offered o c.args.store.now) c.in-Held.is c.requires in
    c.read.ensures.calls (get_or entries c.args.position d) (has.held.each c.args.position d (omega (arith, has.held.count, inside))))
