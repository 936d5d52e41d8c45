use Rattle.std.proofs.Common.{◌≢◌, ◌<◌, ◌≤◌, ℕ, reverse}
use Rattle.std.specs.Prelude.{slice_index}
use Rattle.hash_check.specs.inside.Endings.{AreHeld}
use Rattle.hash_check.proofs.endings.number_ending.Given as goal

abbrev pub invariant-loop-number : goal.invariant-loop-number
invariant-loop-number l = record {
  held : AreHeld l.names (reverse l.fn.ending.string.now) l.marks l.numbers;
  kept : (k : ℕ) → slice_index l.fn.numbers k ≢ 0 → slice_index l.numbers k ≢ 0;
  told : (k : ℕ) → l.fn.ending.first ≤ k → k < l.number → slice_index l.numbers k ≢ 0;
}
