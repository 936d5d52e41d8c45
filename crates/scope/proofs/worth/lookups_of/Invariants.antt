use Rattle.std.proofs.Common.{◌≤◌}
use Rattle.scope.proofs.worth.lookups_of.Given as goal

abbrev pub invariant-loop-i : goal.invariant-loop-i
invariant-loop-i l = l.naming ≤ l.i
