use Rattle.std.proofs.Common.{◌≡◌, ℕ, ◌<◌, ◌≤◌, length, slice_index, unwrap_or, None}
use Rattle.hex.specs.Hex.{hex_digit_value}
use Rattle.scripts.proofs.hexadecimal.values_of.Given as goal

abbrev pub invariant-loop-i : goal.invariant-loop-i
invariant-loop-i l = record {
  size : length l.values ≡ 32;
  read : (k : ℕ) → k < l.i → slice_index l.values k ≡ unwrap_or (hex_digit_value (slice_index l.digits k)) 16;
  most : (k : ℕ) → k < l.i → slice_index l.values k ≤ l.greatest;
  other : 16 ≤ l.greatest → (k : ℕ) × (k < 32) × (hex_digit_value (slice_index l.digits k) ≡ None);
}
