use Rattle.std.proofs.Common.{◌≡◌, ℕ, ◌<◌, ◌≤◌, ◌+◌, length, get_or}
use Rattle.hash_check.proofs.lanes.move_on.Given as goal

abbrev pub invariant-loop-k : goal.invariant-loop-k
invariant-loop-k l = record {
  size : length l.places ≡ 8;
  moved : (j : ℕ) → j < l.k → get_or l.places j 0 ≡ get_or l.initial.places j 0 + l.count;
  left : (j : ℕ) → l.k ≤ j → get_or l.places j 0 ≡ get_or l.initial.places j 0;
}
