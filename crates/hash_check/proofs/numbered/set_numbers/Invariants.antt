use Rattle.std.proofs.Common.{◌≡◌, ◌<◌, ◌≤◌, ℕ, length}
use Rattle.std.specs.Prelude.{slice_index}
use Rattle.hash_check.specs.Numbered.{nth_symbol}
use Rattle.hash_check.specs.inside.Numbered.{with_number}
use Rattle.hash_check.proofs.numbered.set_numbers.Given as goal

abbrev pub invariant-loop-i : goal.invariant-loop-i
invariant-loop-i l = record {
  size : length l.symbols.items ≡ length l.fn.symbols.items;
  given : (k : ℕ) → k < l.i → nth_symbol l.symbols.items k ≡ with_number (nth_symbol l.fn.symbols.items k) (slice_index l.numbers k);
  left : (k : ℕ) → l.i ≤ k → nth_symbol l.symbols.items k ≡ nth_symbol l.fn.symbols.items k;
}
