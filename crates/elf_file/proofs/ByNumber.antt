-- Counting and searching the values of a function on a range of numbers is the same as counting and
-- searching the numbers.
use Rattle.std.proofs.Common.{◌≡◌, ℕ, ◌-◌, arith, Bool, true, false, cond, List, [], ◌∷◌, length, refl, ap, filter, map, suc}
use Rattle.std.specs.Prelude.{◌||◌}
use Rattle.std.specs.List.{list_any}

counted-step : {X Y : Type 0} (b : Bool) (x : X) (y : Y) (xs : List X) (ys : List Y) → length xs ≡ length ys
    → length (cond b (x ∷ xs) xs) ≡ length (cond b (y ∷ ys) ys)
counted-step true x y xs ys same = ap suc same
counted-step false x y xs ys same = same

pub length-filter-map : {X Y : Type 0} (test : Y → Bool) (f : X → Y) (xs : List X) → length (filter (λ x. test (f x)) xs) ≡ length (filter test (map f xs))
length-filter-map test f [] = refl
length-filter-map test f (x ∷ xs) =
    counted-step (test (f x)) x (f x) (filter (λ z. test (f z)) xs) (filter test (map f xs)) (length-filter-map test f xs)

pub list_any-map : {X Y : Type 0} (test : Y → Bool) (f : X → Y) (xs : List X) → list_any (λ x. test (f x)) xs ≡ list_any test (map f xs)
list_any-map test f [] = refl
list_any-map test f (x ∷ xs) = ap (λ b. test (f x) || b) (list_any-map test f xs)

-- subtracting 0 from a number leaves the number
pub below : (n : ℕ) → n - 0 ≡ n
below n = omega arith
