-- Sorted names, and whether a name occurs twice.
use Rattle.std.proofs.Common.{◌≡◌, ◌≢◌, ℕ, ◌+◌, ◌<◌, All, true, false, eqb, List, length, get_or, arith, refl, sym, ◌∙◌, ⊎_elim}
use Rattle.std.specs.List.{range_with_len, IsDistinct}
use Rattle.std.specs.Cmp.Lexicographic.{on_texts}
use Rattle.std.specs.Ordering.{ordering_reverse, is_lt}
use Rattle.std.specs.declared.cmp.Ordering.{Ordering}
use Rattle.std.specs.declared.cmp.Ordering.TheVariants.{Less, Equal, Greater}
use Rattle.std.proofs.lemmas.Bool.{cases_lt, eqb-false}
use Rattle.std.proofs.lemmas.Bool.Decides.{nat_tests}
use Rattle.std.proofs.lemmas.Cmp.{nat_list_cmp_total}
use Rattle.std.proofs.lemmas.List.FromFn.{length-range_with_len, get_or-range_with_len}
use Rattle.std.proofs.lemmas.List.Sorted.{All-permutation, Contains-permutation, length_permutation}
use Rattle.std.proofs.lemmas.Map.Keys.{IsDistinct-from_apart, IsDistinct-IsPermutation, apart_from_distinct, sorted_from_all_adjacent, Less-from_sorted}
use Rattle.std.proofs.lemmas.Map.Lookups.{exact_bytes}
use Rattle.store.specs.NameOrder.{name_at, name_order, IsOrderOf}
use Rattle.store.specs.inside.NameIndex.{IsSortedOrder, Rises}

within : (names : List (List ℕ)) (positions : List ℕ) → IsSortedOrder names positions → All (λ position. position < length names) positions
within names positions sorted =
    All-permutation (λ position. position < length names) (range_with_len 0 (length names)) positions sorted.moved
    (λ k d lt.
    let n = length-range_with_len 0 (length names) in
    omega (arith, lt, n, get_or-range_with_len 0 (length names) k d (omega (arith, lt, n))))

-- if positions are sorted and each name comes before the next one, they are an order, and no name occurs twice
pub order_from_rises : (names : List (List ℕ)) (positions : List ℕ) → IsSortedOrder names positions → Rises names positions → IsOrderOf names positions
order_from_rises names positions sorted rises = record {
  size = length_permutation (range_with_len 0 (length names)) positions sorted.moved ∙ length-range_with_len 0 (length names);
  within = within names positions sorted;
  every = λ p lt. Contains-permutation (range_with_len 0 (length names)) positions p sorted.moved
      (p, omega (arith, lt, length-range_with_len 0 (length names)), get_or-range_with_len 0 (length names) p p lt ∙ omega arith);
  rise = λ j k d less lt. Less-from_sorted (name_order names) positions j k d (sorted_from_all_adjacent (on_texts (name_at names)) positions 0 rises.rise) less lt;
}

eqb-flips : (a b : ℕ) → eqb a b ≡ eqb b a
eqb-flips a b = grind (arith, nat_tests)

-- no position occurs twice
distinct : (names : List (List ℕ)) (positions : List ℕ) → IsSortedOrder names positions → IsDistinct eqb positions
distinct names positions sorted =
    IsDistinct-IsPermutation eqb eqb-flips (range_with_len 0 (length names)) positions sorted.moved
    (IsDistinct-from_apart eqb (range_with_len 0 (length names)) (λ i j d less lt.
    let n = length-range_with_len 0 (length names) in
    let first = get_or-range_with_len 0 (length names) i d (omega (arith, less, lt, n)) in
    let second = get_or-range_with_len 0 (length names) j d (omega (arith, lt, n)) in
    grind (arith, nat_tests, first, second)))

less-from : (o r : Ordering) → o ≡ ordering_reverse r → is_lt r ≡ false → (o ≡ Equal → ⊥) → o ≡ Less
less-from Less r e up other = refl
less-from Equal r e up other = absurd (other refl)
less-from Greater Less e up other = let wrong : true ≡ false = up in absurd (cc)
less-from Greater Equal e up other = absurd (cc)
less-from Greater Greater e up other = absurd (cc)

-- if no name occurs twice, each sorted name comes before the next
pub rises_from_own : (names : List (List ℕ)) (positions : List ℕ) → IsSortedOrder names positions
    → ((i j : ℕ) → i < j → j < length names → name_at names i ≢ name_at names j) → Rises names positions
rises_from_own names positions sorted own = record {
  rise = λ k lt.
      let apart = apart_from_distinct eqb positions k (k + 1) 0 (distinct names positions sorted) (omega arith) lt in
      less-from (name_order names (get_or positions k 0) (get_or positions (k + 1) 0)) (name_order names (get_or positions (k + 1) 0) (get_or positions k 0))
      (nat_list_cmp_total.antisymm (name_at names (get_or positions k 0)) (name_at names (get_or positions (k + 1) 0)))
      (sorted.sorted k 0 (omega arith) lt)
      (λ equal.
      let same : name_at names (get_or positions k 0) ≡ name_at names (get_or positions (k + 1) 0) =
      exact_bytes (name_at names (get_or positions k 0)) (name_at names (get_or positions (k + 1) 0)) equal in
      ⊎_elim
      (λ less. own (get_or positions k 0) (get_or positions (k + 1) 0) less (within names positions sorted (k + 1) 0 lt) same)
      (λ more. own (get_or positions (k + 1) 0) (get_or positions k 0)
      (omega (arith, more, eqb-false (get_or positions k 0) (get_or positions (k + 1) 0) apart))
      (within names positions sorted k 0 (omega (arith, lt))) (sym same))
      (cases_lt (get_or positions k 0) (get_or positions (k + 1) 0)));
}
