-- Lemmas about byte strings in a row, to which one byte string is added.
use Rattle.std.proofs.Common.{◌≡◌, ℕ, zero, suc, ◌+◌, ◌<◌, ◌≤◌, List, [], ◌∷◌, ◌++◌, length, get_or, take, map, refl, sym, ◌∙◌, ap, subst, arith}
use Rattle.std.proofs.lemmas.List.{take_more, flat_map_more, length-append, take_all}
use Rattle.std.specs.List.{flat_map}
use Rattle.std.specs.Prelude.{Option, Some, None, IfNone, IfSome}

module _ {A : Type 0} (row : A → List ℕ) where
  pub rows_more : (xs : List A) (i : ℕ) (d : A) → i < length xs → flat_map row (take (i + 1) xs) ≡ flat_map row (take i xs) ++ row (get_or xs i d)
  rows_more xs i d lt = ap (flat_map row) (take_more xs i d lt) ∙ sym (flat_map_more row [] (take i xs) (get_or xs i d))

  pub rows_le : (xs : List A) (i : ℕ) → length (flat_map row (take i xs)) ≤ length (flat_map row xs)
  rows_le xs zero = omega arith
  rows_le [] (suc i) = omega arith
  rows_le (x ∷ xs) (suc i) = omega (arith, length-append (row x) (flat_map row (take i xs)), length-append (row x) (flat_map row xs), rows_le xs i)

  -- the row of the first i + 1 byte strings has as many bytes as that of the first i and byte string
  -- number i
  pub size_more : (xs : List A) (i : ℕ) (d : A) → i < length xs → length (flat_map row (take (i + 1) xs)) ≡ length (flat_map row (take i xs)) + length (row (get_or xs i d))
  size_more xs i d lt = ap length (rows_more xs i d lt) ∙ length-append (flat_map row (take i xs)) (row (get_or xs i d))

  -- the row of the first i + 1 byte strings has at most as many bytes as the row of all
  pub size_within : (xs : List A) (i : ℕ) (d : A) → i < length xs → length (flat_map row (take i xs)) + length (row (get_or xs i d)) ≤ length (flat_map row xs)
  size_within xs i d lt = omega (arith, size_more xs i d lt, rows_le xs (i + 1))

  pub rows_all : (xs : List A) (n : ℕ) → length xs ≤ n → flat_map row (take n xs) ≡ flat_map row xs
  rows_all xs n le = ap (flat_map row) (take_all n xs le)

-- a row of a function's values is the row of the items to which the function is applied
pub rows_of : {A B : Type 0} → (row : B → List ℕ) (to : A → B) (xs : List A) → flat_map row (map to xs) ≡ flat_map (λ x. row (to x)) xs
rows_of row to [] = refl
rows_of row to (x ∷ xs) = ap (λ l. row (to x) ++ l) (rows_of row to xs)

-- One more byte string is put after the first `i` byte strings.
module _ {A : Type 0} (row : A → List ℕ) (xs : List A) (i : ℕ) (x : A) (lt : i < length xs) (is : x ≡ get_or xs i x) (at : ℕ) (at_is : at ≡ length (flat_map row (take i xs))) where
  pub end_more : (at' : ℕ) → at' ≡ at + length (row x) → at' ≡ length (flat_map row (take (i + 1) xs))
  end_more at' end = omega (arith, at_is, end, size_more row xs i x lt, ap (λ y. length (row y)) is)

  pub front_more : (old new : List ℕ) (at' : ℕ) → take at old ≡ flat_map row (take i xs) → take at' new ≡ take at old ++ row x → take at' new ≡ flat_map row (take (i + 1) xs)
  front_more old new at' front put =
      put ∙ ap (λ l. l ++ row x) front ∙ ap (λ y. flat_map row (take i xs) ++ row y) is ∙ sym (rows_more row xs i x lt)

  pub room_lacks : (n : ℕ) → n < at + length (row x) → n < length (flat_map row xs)
  room_lacks n small = omega (arith, at_is, small, size_within row xs i x lt, ap (λ y. length (row y)) is)

-- `IfNone o P` holds if P holds
pub none_holds : {B : Type 0} {P : Type 0} (o : Option B) → P → IfNone o P
none_holds None p = p
none_holds (Some b) p = tt

-- `IfSome o P` holds if the option is `None`
pub none_given : {B : Type 0} (o : Option B) → o ≡ None → (P : B → Type 0) → IfSome o P
none_given o none P = subst (λ x. IfSome x P) (sym none) tt
