use Rattle.std.proofs.Common.{◌≢◌, ◌<◌, ℕ, get_or}
use Rattle.hash_check.specs.inside.Lanes.{IsMet}
use Rattle.hash_check.proofs.table.are_met.Given as goal

abbrev pub invariant-loop-k : goal.invariant-loop-k
invariant-loop-k l = (j : ℕ) → j < l.k → get_or l.lanes.symbols j 0 ≢ 0 → IsMet l.object (get_or l.lanes.symbols j 0)
