-- Searching the values of a function on a range of numbers is the same as searching the numbers.
use Rattle.std.proofs.Common.{◌≡◌, ℕ, ◌-◌, Bool, List, [], ◌∷◌, refl, ap, ◌∙◌, map, drop, suc, zero, arith}
use Rattle.std.specs.List.{list_any, range_with_len}
use Rattle.elf_file.proofs.ByNumber.{list_any-map}

pub map-map : {X Y Z : Type 0} (g : Y → Z) (f : X → Y) (xs : List X) → map (λ x. g (f x)) xs ≡ map g (map f xs)
map-map g f [] = refl
map-map g f (x ∷ xs) = ap (λ zs. g (f x) ∷ zs) (map-map g f xs)

-- the same for the range without 0
pub any-from_one : {Y : Type 0} (test : Y → Bool) (f : ℕ → Y) (n : ℕ)
    → list_any (λ i. test (f i)) (range_with_len 1 (n - 1)) ≡ list_any test (drop 1 (map f (range_with_len 0 n)))
any-from_one test f zero = refl
any-from_one test f (suc n) =
    let e : suc n - 1 ≡ n = omega arith in
    ap (λ k. list_any (λ i. test (f i)) (range_with_len 1 k)) e ∙ list_any-map test f (range_with_len 1 n)
