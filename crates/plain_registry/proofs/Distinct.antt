-- Lists whose elements are all distinct.
use Rattle.std.proofs.Common.{◌≡◌, ◌<◌, ℕ, suc, Bool, false, List, [], ◌∷◌, length, map, arith}
use Rattle.std.specs.Prelude.{nat_eq, AllPairs, slice_index_or}
use Rattle.std.specs.List.{AllByRecursion, IsDistinct}

module _ {X K : Type 0} (f : X → K) (eq : K → K → Bool) where
  apart : (x : X) (xs : List X) → ((k : ℕ) (d : X) → k < length xs → eq (f x) (f (slice_index_or xs k d)) ≡ false)
      → AllByRecursion (λ y. eq (f x) y ≡ false) (map f xs)
  apart x [] h = tt
  apart x (y ∷ xs) h = (h 0 y (omega arith), apart x xs (λ k d l. h (suc k) d (omega arith)))

  pub distinct_by : (xs : List X) → AllPairs (λ a b. eq (f a) (f b) ≡ false) xs → IsDistinct eq (map f xs)
  unfolding IsDistinct
  distinct_by [] h = tt
  distinct_by (x ∷ xs) h = (
    apart x xs (λ k d l. h 0 (suc k) d (omega arith) (omega arith)),
    distinct_by xs (λ i j d l m. h (suc i) (suc j) d (omega arith) (omega arith)),
  )

apart_numbers : (x : ℕ) (xs : List ℕ) → ((k d : ℕ) → k < length xs → nat_eq x (slice_index_or xs k d) ≡ false)
    → AllByRecursion (λ y. nat_eq x y ≡ false) xs
apart_numbers x [] h = tt
apart_numbers x (y ∷ xs) h = (h 0 y (omega arith), apart_numbers x xs (λ k d l. h (suc k) d (omega arith)))

pub distinct_numbers : (xs : List ℕ) → AllPairs (λ a b. nat_eq a b ≡ false) xs → IsDistinct nat_eq xs
unfolding IsDistinct
distinct_numbers [] h = tt
distinct_numbers (x ∷ xs) h = (
  apart_numbers x xs (λ k d l. h 0 (suc k) d (omega arith) (omega arith)),
  distinct_numbers xs (λ i j d l m. h (suc i) (suc j) d (omega arith) (omega arith)),
)
