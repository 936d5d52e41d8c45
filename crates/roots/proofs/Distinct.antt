-- Values that `==` distinguishes, and distinct numbers.
use Rattle.std.proofs.Common.{◌≡◌, ℕ, ◌+◌, ◌<◌, List, Bool, true, false, eqb, take, length, get_or, sym, ◌∙◌, ap, ap₂, subst, arith, true≢false, below_more, length-take, get_or-take}
use Rattle.std.proofs.lemmas.List.{get_or_default}
use Rattle.std.specs.Prelude.{AllPairs}
use Rattle.std.specs.List.{IsAnyAnswer}
use Rattle.std.proofs.lemmas.Bool.{eqb-false}
use Rattle.extents.specs.Extent.{AreDistinct}

-- The value at position `i`, compared with the values before it.

module _ {X : Type 0} (E : X → X → Bool) (xs : List X) (i : ℕ) (x : X) (same : x ≡ get_or xs i x) (within : i < length xs) where
  test_before : (j : ℕ) (d : X) → j < i → E (get_or (take i xs) j d) x ≡ E (get_or xs j d) (get_or xs i d)
  test_before j d less = ap₂ E (get_or-take i xs j d less) (same ∙ get_or_default xs i x d within)

  pub apart_more : ((k : ℕ) → k < i → (j : ℕ) (d : X) → j < k → E (get_or xs j d) (get_or xs k d) ≡ false) → IsAnyAnswer (λ y b. E y x ≡ b) (take i xs) false
      → (k : ℕ) → k < i + 1 → (j : ℕ) (d : X) → j < k → E (get_or xs j d) (get_or xs k d) ≡ false
  apart_more below none = below_more (λ k. (j : ℕ) (d : X) → j < k → E (get_or xs j d) (get_or xs k d) ≡ false) i below
      (λ j d less. sym (test_before j d less) ∙ none j d (omega arith) (omega (arith, length-take i xs)))

  pub not_apart : IsAnyAnswer (λ y b. E y x ≡ b) (take i xs) true → ¬ (AllPairs (λ a b. E a b ≡ false) xs)
  not_apart found apart =
      let less : found.0 < i = omega (arith, found.1, length-take i xs) in
      true≢false (sym (found.2 x) ∙ test_before found.0 x less ∙ apart found.0 i x less within)

-- if `==` distinguishes all used numbers of a list, the used numbers are distinct

pub distinct_front : (ns used : List ℕ) (n count : ℕ) → used ≡ take n ns → n ≡ count → AllPairs (λ a b. eqb a b ≡ false) used → AreDistinct (take count ns)
distinct_front ns used n count front same tests =
    subst AreDistinct (front ∙ ap (λ k. take k ns) same) (λ i j d before inside. eqb-false _ _ (tests i j d before inside))
