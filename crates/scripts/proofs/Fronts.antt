-- Lemmas about the bytes before the first byte that fails a test.
use Rattle.std.proofs.Common.{◌≡◌, ◌≤◌, Bool, true, false, cond, List, [], ◌∷◌, length, arith, refl, ◌∙◌, sym, ap, take}
use Rattle.std.specs.Prelude.{take_while}
use Rattle.std.proofs.lemmas.List.Sums.{take_while-cons}

front-step : {X : Type 0} (x : X) (xs rest : List X) (b : Bool) → take (length rest) xs ≡ rest → take (length (cond b (x ∷ rest) [])) (x ∷ xs) ≡ cond b (x ∷ rest) []
front-step x xs rest true h = ap (λ t. x ∷ t) h
front-step x xs rest false h = refl

pub take_front : {X : Type 0} (p : X → Bool) (xs : List X) → take (length (take_while p xs)) xs ≡ take_while p xs
take_front p [] = refl
take_front p (x ∷ xs) =
    ap (λ t. take (length t) (x ∷ xs)) (take_while-cons p x xs) ∙ front-step x xs (take_while p xs) (p x) (take_front p xs) ∙ sym (take_while-cons p x xs)

short-step : {X : Type 0} (x : X) (xs rest : List X) (b : Bool) → length rest ≤ length xs → length (cond b (x ∷ rest) []) ≤ length (x ∷ xs)
short-step x xs rest true h = omega (arith, h)
short-step x xs rest false h = omega arith

pub front_short : {X : Type 0} (p : X → Bool) (xs : List X) → length (take_while p xs) ≤ length xs
front_short p [] = omega arith
front_short p (x ∷ xs) = omega (arith, ap length (take_while-cons p x xs), short-step x xs (take_while p xs) (p x) (front_short p xs))
