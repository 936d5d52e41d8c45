use Rattle.std.proofs.Common.{ℕ, ◌<◌, get_or}
use Rattle.hash_check.proofs.chains.Chains.are_indices.Given as goal

abbrev pub invariant-loop-i : goal.invariant-loop-i
invariant-loop-i l = (k : ℕ) → k < l.i → get_or l.self k 0 < l.count
