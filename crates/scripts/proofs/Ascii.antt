-- A base is ASCII, and so it is UTF-8.
use Rattle.std.proofs.Common.{◌≡◌, ℕ, ◌<◌, Bool, true, false, cond, List, [], ◌∷◌, arith, refl, drop, nat_eq, zero, suc, Some, None}
use Rattle.std.specs.Prelude.{◌&&◌, codes}
use Rattle.std.specs.List.{list_all, starts_with}
use Rattle.std.specs.Char.{is_ascii_hexdigit}
use Rattle.std.specs.Str.{IsAscii, IsUtf8}
use Rattle.std.specs.Str.Parse.{digits_value}
use Rattle.std.proofs.lemmas.Str.{IsUtf8-from_ascii}
use Rattle.std.proofs.lemmas.Bool.Decides.{nat_tests}
use Rattle.program_parts.specs.Base.{is_base, base_of}
use Rattle.program_parts.proofs.Digits.{and_left, and_right, base_digits, base_front}

small : (c : ℕ) → is_ascii_hexdigit c ≡ true → c < 128
small c h = grind (arith, nat_tests)

all_small : (cs : List ℕ) → list_all is_ascii_hexdigit cs ≡ true → IsAscii cs
all_small [] h i = omega arith
all_small (c ∷ cs) h zero = small c (and_left (is_ascii_hexdigit c) (list_all is_ascii_hexdigit cs) h)
all_small (c ∷ cs) h (suc i) = all_small cs (and_right (is_ascii_hexdigit c) (list_all is_ascii_hexdigit cs) h) i

none_unless : (b : Bool) (n : ℕ) → (b ≡ true → ⊥) → cond b (Some n) None ≡ None
none_unless true n h = absurd (h refl)
none_unless false n h = refl

ascii_cons : (c : ℕ) (cs : List ℕ) → c < 128 → IsAscii cs → IsAscii (c ∷ cs)
ascii_cons c cs h hs zero = h
ascii_cons c cs h hs (suc i) = hs i

ascii_front : (a b : ℕ) (rest : List ℕ) → starts_with nat_eq (a ∷ b ∷ rest) (codes "0x") ≡ true → IsAscii rest → IsAscii (a ∷ b ∷ rest)
ascii_front a b rest h hs =
    let first : nat_eq 48 a ≡ true = and_left (nat_eq 48 a) (nat_eq 120 b && true) h in
    let second : nat_eq 120 b ≡ true = and_left (nat_eq 120 b) true (and_right (nat_eq 48 a) (nat_eq 120 b && true) h) in
    ascii_cons a (b ∷ rest) (grind (arith, nat_tests, first)) (ascii_cons b rest (grind (arith, nat_tests, second)) hs)

ascii_base : (word : List ℕ) → is_base word ≡ true → IsAscii word
ascii_base [] h = absurd (omega (arith, (base_digits [] h).0))
ascii_base (a ∷ []) h = absurd (omega (arith, (base_digits (a ∷ []) h).0))
ascii_base (a ∷ b ∷ rest) h = ascii_front a b rest (base_front (a ∷ b ∷ rest) h) (all_small rest (base_digits (a ∷ b ∷ rest) h).2)

-- bytes that aren't UTF-8 aren't a base
pub no_base : (word : List ℕ) → (IsUtf8 word → ⊥) → base_of word ≡ None
no_base word h = none_unless (is_base word) (digits_value 16 (drop 2 word)) (λ is. h (IsUtf8-from_ascii word (ascii_base word is)))
