-- Lemmas about texts without a newline.
use Rattle.std.proofs.Common.{◌≡◌, ℕ, zero, suc, Bool, true, false, List, [], ◌∷◌, Result, Ok, Err, refl, sym, subst, arith}
use Rattle.std.specs.Prelude.{◌≢◌, ◌&&◌, ◌==◌, ◌/◌, ◌%◌, not, All, IsOk, OnOk, slice_index}
use Rattle.std.specs.List.{list_all}
use Rattle.std.proofs.lemmas.Bool.{false≢true}
use Rattle.std.proofs.lemmas.Bool.Decides.{nat_tests}
use Rattle.std.proofs.lemmas.List.Elements.{All-cons, All-head, All-nil, All-tail}
use Rattle.hex.specs.Hex.{encode_lower, encode_with, lower_digits}
use Rattle.roots.specs.Entry.{IsNameByte}
use Rattle.text_output.specs.Pieces.{IsWithinLine}

-- if a computed test finds no newline in a text, the text has none
pub no_newline : (text : List ℕ) → list_all (λ b. not (b == 10)) text ≡ true → IsWithinLine text
no_newline [] h = All-nil (λ b. b ≢ 10)
no_newline (b ∷ text) h = by (b == 10) (list_all (λ b. not (b == 10)) text) h refl (no_newline text)
  where
    by : (c d : Bool) → (not c && d) ≡ true → (b == 10) ≡ c → (d ≡ true → IsWithinLine text) → IsWithinLine (b ∷ text)
    by true d h is rest = cc h
    by false d h is rest = All-cons (λ b. b ≢ 10) b text (λ e. grind (arith, nat_tests, is, e)) (rest h)

-- a name has no newline
pub name_within : (name : List ℕ) → All IsNameByte name → IsWithinLine name
name_within [] h = All-nil (λ b. b ≢ 10)
name_within (b ∷ name) h =
    let visible = All-head IsNameByte b name h in
    All-cons (λ b. b ≢ 10) b name (λ e. omega (arith, visible.0.0, e)) (name_within name (All-tail IsNameByte b name h))

-- if a property holds for each element and for 0, it holds at each position, because a position past the
-- end has 0
pub at_each : (P : ℕ → Type 0) → P 0 → (xs : List ℕ) → All P xs → (i : ℕ) → P (slice_index xs i)
at_each P z [] h i = z
at_each P z (x ∷ xs) h zero = All-head P x xs h
at_each P z (x ∷ xs) h (suc i) = at_each P z xs (All-tail P x xs h) i

no_digit : (d : ℕ) → slice_index lower_digits d ≢ 10
no_digit d = at_each (λ b. b ≢ 10) (λ e. omega (arith, e)) lower_digits (no_newline lower_digits refl) d

-- digits have no newline
pub digits_within : (bytes : List ℕ) → IsWithinLine (encode_lower bytes)
unfolding encode_with
digits_within [] = All-nil (λ b. b ≢ 10)
digits_within (b ∷ bytes) =
    All-cons (λ b. b ≢ 10) (slice_index lower_digits (b / 16)) (slice_index lower_digits (b % 16) ∷ encode_lower bytes) (no_digit (b / 16))
    (All-cons (λ b. b ≢ 10) (slice_index lower_digits (b % 16)) (encode_lower bytes) (no_digit (b % 16)) (digits_within bytes))

-- the encoded digits of bytes have no newline
pub spelt_within : {T E : Type 0} (r : Result T E) (spelt bytes : List ℕ) → IsOk r → OnOk r (spelt ≡ encode_lower bytes) → IsWithinLine spelt
spelt_within (Ok t) spelt bytes ok is = subst IsWithinLine (sym is) (digits_within bytes)
spelt_within (Err e) spelt bytes ok is = absurd (false≢true ok)
