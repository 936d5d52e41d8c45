use Rattle.std.proofs.Common.{◌≡◌, drop}
use Rattle.extents.proofs.Sorting.{longest_by}
use Rattle.extents.proofs.runs.longest_run.Given as goal

abbrev pub invariant-loop-run : goal.invariant-loop-run
invariant-loop-run l = longest_by l.longest (drop l.run-index l.rest) ≡ longest_by l.initial.longest l.rest
