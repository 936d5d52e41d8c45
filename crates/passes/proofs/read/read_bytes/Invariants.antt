use Rattle.std.proofs.Common.{length}
use Rattle.passes.proofs.Readings.{ExtentsProgress}
use Rattle.passes.proofs.read.read_bytes.Given as goal

abbrev pub invariant-loop-extent : goal.invariant-loop-extent
invariant-loop-extent g l = ExtentsProgress (g.D.Disk.facts l.initial.disk) (g.D.Disk.facts l.disk) l.extents l.extent-index l.from (length l.initial.into) l.into
