use Rattle.std.proofs.Common.{◌≡◌, ◌<◌, ◌≤◌, ℕ}
use Rattle.std.specs.Prelude.{slice_index}
use Rattle.hash_check.proofs.endings.unmark.Given as goal

abbrev pub invariant-loop-n : goal.invariant-loop-n
invariant-loop-n l = record {
  start : l.from ≤ l.n;
  idle : l.n-end < l.from → l.n ≡ l.from;
  low : (k : ℕ) → k < l.from → slice_index l.marks k ≡ slice_index l.fn.marks k;
  cleared : (k : ℕ) → l.from ≤ k → k < l.n → slice_index l.marks k ≡ 0;
  high : (k : ℕ) → l.n ≤ k → slice_index l.marks k ≡ slice_index l.fn.marks k;
}
