-- The bytes before the first zero byte.
use Rattle.std.proofs.Common.{◌≡◌, ℕ, ◌≤◌, Bool, true, false, cond, List, [], ◌∷◌, length, arith, refl, ◌∙◌, sym, ap, take, drop, min, suc, zero, eqb, get_or, Some, None}
use Rattle.std.specs.Prelude.{take_while, not, Option, unwrap_or}
use Rattle.std.proofs.lemmas.List.Sums.{take_while-cons, prefix_len_is}
use Rattle.std.proofs.lemmas.List.Folds.{length-prefix_len}
use Rattle.memchr.specs.Find.{IsFirstByte, is_byte}

front-step : {X : Type 0} (x : X) (xs rest : List X) (b : Bool) → take (length rest) xs ≡ rest → take (length (cond b (x ∷ rest) [])) (x ∷ xs) ≡ cond b (x ∷ rest) []
front-step x xs rest true h = ap (λ t. x ∷ t) h
front-step x xs rest false h = refl

-- if a list is cut to as many elements as pass a test at its beginning, it has these elements
pub take_front : {X : Type 0} (p : X → Bool) (xs : List X) → take (length (take_while p xs)) xs ≡ take_while p xs
take_front p [] = refl
take_front p (x ∷ xs) =
    ap (λ t. take (length t) (x ∷ xs)) (take_while-cons p x xs) ∙ front-step x xs (take_while p xs) (p x) (take_front p xs) ∙ sym (take_while-cons p x xs)

short-step : {X : Type 0} (x : X) (xs rest : List X) (b : Bool) → length rest ≤ length xs → length (cond b (x ∷ rest) []) ≤ length (x ∷ xs)
short-step x xs rest true h = omega (arith, h)
short-step x xs rest false h = omega arith

-- the elements that pass a test at the beginning of a list aren't more than all of its elements
pub front_short : {X : Type 0} (p : X → Bool) (xs : List X) → length (take_while p xs) ≤ length xs
front_short p [] = omega arith
front_short p (x ∷ xs) = omega (arith, ap length (take_while-cons p x xs), short-step x xs (take_while p xs) (p x) (front_short p xs))

pub drop_min : {X : Type 0} (n : ℕ) (xs : List X) → drop (min n (length xs)) xs ≡ drop n xs
drop_min n [] = drop-none (min n 0) ∙ sym (drop-none n)
  where
    drop-none : {X : Type 0} (k : ℕ) → drop {A = X} k [] ≡ []
    drop-none zero = refl
    drop-none (suc k) = refl
drop_min zero (x ∷ xs) =
    let e : min 0 (length (x ∷ xs)) ≡ 0 = omega arith in
    ap (λ k. drop k (x ∷ xs)) e
drop_min (suc n) (x ∷ xs) =
    let e : min (suc n) (length (x ∷ xs)) ≡ suc (min n (length xs)) = omega arith in
    ap (λ k. drop k (x ∷ xs)) e ∙ drop_min n xs

no-zero : (b : Bool) → (b ≡ true → ⊥) → not b ≡ true
no-zero true is = absurd (is refl)
no-zero false is = refl

-- the number of bytes before the first zero byte is its index, or the length of the list if there is
-- none
pub zero_found : (xs : List ℕ) (found : Option ℕ) → IsFirstByte (is_byte 0) xs found → unwrap_or found (length xs) ≡ length (take_while (λ b. not (eqb b 0)) xs)
zero_found xs None none =
    sym (length-prefix_len (λ b. not (eqb b 0)) xs
    ∙ prefix_len_is (λ b. not (eqb b 0)) xs (length xs) 0 (omega arith) (λ k lt. let least : 0 ≤ k = omega arith in no-zero (eqb (get_or xs k 0) 0) (none k least lt)) (λ lt. absurd (omega arith)))
zero_found xs (Some at) first =
    sym (length-prefix_len (λ b. not (eqb b 0)) xs
    ∙ prefix_len_is (λ b. not (eqb b 0)) xs at 0 (omega (arith, first.0.high))
    (λ k lt. let least : 0 ≤ k = omega arith in no-zero (eqb (get_or xs k 0) 0) (first.0.before k least lt)) (λ lt. ap not first.1))

-- the rules for `string_at`
pub ruleset ends = (take_front, front_short, drop_min)
