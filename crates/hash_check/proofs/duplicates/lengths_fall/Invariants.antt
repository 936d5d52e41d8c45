use Rattle.std.proofs.Common.{◌<◌, ◌≤◌, ◌-◌, ℕ, length}
use Rattle.hash_check.specs.Numbers.{nth_text}
use Rattle.hash_check.proofs.duplicates.lengths_fall.Given as goal

abbrev pub invariant-loop-i : goal.invariant-loop-i
invariant-loop-i l = (k : ℕ) → 1 ≤ k → k < l.i → length (nth_text l.names k) < length (nth_text l.names (k - 1))
