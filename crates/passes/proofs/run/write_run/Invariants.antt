use Rattle.passes.proofs.Runs.{Progress}
use Rattle.passes.proofs.run.write_run.Given as goal

abbrev pub invariant-loop-done : goal.invariant-loop-done
invariant-loop-done g l = Progress (g.D.Disk.facts l.initial.disk) (g.D.Disk.facts l.disk) l.fn.extent l.done l.bytes l.rest
