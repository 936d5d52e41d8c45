use Rattle.passes.proofs.Singles.{Progress}
use Rattle.passes.proofs.single.write_singles.Given as goal

abbrev pub invariant-loop-single : goal.invariant-loop-single
invariant-loop-single g l = Progress (g.D.Disk.facts l.initial.disk) (g.D.Disk.facts l.disk) l.singles l.single-index
