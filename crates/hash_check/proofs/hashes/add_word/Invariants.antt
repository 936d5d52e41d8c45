use Rattle.std.proofs.Common.{◌≡◌, ℕ, ◌<◌, ◌≤◌, ◌+◌, length, take, drop, get_or}
use Rattle.std.specs.List.{fold}
use Rattle.hash_check.specs.Hash.{hash_step}
use Rattle.hash_check.proofs.hashes.add_word.Given as goal

abbrev pub invariant-loop-k : goal.invariant-loop-k
invariant-loop-k l = record {
  size : length l.hashes ≡ 8;
  made : (j : ℕ) → j < l.k → get_or l.hashes j 0 ≡ fold hash_step (get_or l.initial.hashes j 0) (take 4 (drop (get_or l.places j 0 + l.i) l.table));
  left : (j : ℕ) → l.k ≤ j → get_or l.hashes j 0 ≡ get_or l.initial.hashes j 0;
}
