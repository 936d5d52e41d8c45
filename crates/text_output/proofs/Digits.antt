-- The two digits of a byte, computed as one number.
use Rattle.std.proofs.Common.{◌≡◌, ℕ, ◌+◌, ◌*◌, ◌/◌, ◌%◌, ◌<◌, ◌==◌, ◌&&◌, Bool, true, slice_index, bit_and, zero, suc, refl, subst, inl, inr, arith}
use Rattle.std.proofs.lemmas.Bool.{and_parts, cases_lt, eqb-true}
use Rattle.std.specs.Int.{to_le_bytes, w16}
use Rattle.hex.specs.Hex.{lower_digits}

-- the number whose two bytes are the digits
abbrev pub digits_number : ℕ → ℕ
digits_number b =
    let values = b / 16 + b % 16 * 256 in
    values + 12336 + bit_and ((values + 1542) / 16) 257 * 39

-- all numbers below n pass the test p
abbrev all_below : (ℕ → Bool) → ℕ → Bool
all_below p zero = true
all_below p (suc n) = p n && all_below p n

all_below-at : (p : ℕ → Bool) (n i : ℕ) → all_below p n ≡ true → i < n → p i ≡ true
all_below-at p zero i h lt = absurd (omega (arith, lt))
all_below-at p (suc n) i h lt =
    let parts = and_parts (p n) (all_below p n) h in
    elim (cases_lt i n) [
      | inl below ↦ all_below-at p n i parts.1 below
      | inr last ↦ let at : n ≡ i = omega arith in subst (λ k. p k ≡ true) at parts.0
    ]

abbrev is_first : ℕ → Bool
is_first b = slice_index (to_le_bytes w16 (digits_number b)) 0 == slice_index lower_digits (b / 16)

abbrev is_second : ℕ → Bool
is_second b = slice_index (to_le_bytes w16 (digits_number b)) 1 == slice_index lower_digits (b % 16)

pub first-digit : (b : ℕ) → b < 256 → slice_index (to_le_bytes w16 (digits_number b)) 0 ≡ slice_index lower_digits (b / 16)
first-digit b lt = eqb-true _ _ (all_below-at is_first 256 b refl lt)

pub second-digit : (b : ℕ) → b < 256 → slice_index (to_le_bytes w16 (digits_number b)) 1 ≡ slice_index lower_digits (b % 16)
second-digit b lt = eqb-true _ _ (all_below-at is_second 256 b refl lt)
