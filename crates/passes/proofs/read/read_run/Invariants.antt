use Rattle.std.proofs.Common.{length}
use Rattle.passes.proofs.Readings.{Progress}
use Rattle.passes.proofs.read.read_run.Given as goal

abbrev pub invariant-loop-done : goal.invariant-loop-done
invariant-loop-done g l = Progress (g.D.Disk.facts l.initial.disk) (g.D.Disk.facts l.disk) l.fn.extent l.done (length l.initial.into) l.into
