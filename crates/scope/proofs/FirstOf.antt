-- The first value that a function returns at consecutive places.
use Rattle.std.proofs.Common.{◌≡◌, ℕ, zero, suc, ◌+◌, ◌<◌, ◌≤◌, ◌∷◌, map, Option, None, Some, sym, ap, ◌∙◌, refl, arith, add-zero}
use Rattle.std.specs.List.{range_with_len}
use Rattle.elf_file.specs.FirstOf.{first_of}

module _ {R : Type 0} (f : ℕ → Option R) where
  pub none_from : (n a : ℕ) → ((k : ℕ) → a ≤ k → k < a + n → f k ≡ None) → first_of (map f (range_with_len a n)) ≡ None
  none_from zero a none = refl
  none_from (suc n) a none =
      ap (λ o. first_of (o ∷ map f (range_with_len (a + 1) n))) (none a (omega arith) (omega arith))
      ∙ none_from n (a + 1) (λ k ge lt. none k (omega (arith, ge)) (omega (arith, lt)))

  pub some_from : (d n a : ℕ) (x : R) → d < n → ((k : ℕ) → a ≤ k → k < a + d → f k ≡ None) → f (a + d) ≡ Some x → first_of (map f (range_with_len a n)) ≡ Some x
  some_from d zero a x lt none here = absurd (omega (arith, lt))
  some_from zero (suc n) a x lt none here =
      ap (λ o. first_of (o ∷ map f (range_with_len (a + 1) n))) (ap f (sym (add-zero a)) ∙ here)
  some_from (suc d) (suc n) a x lt none here =
      let e : a + suc d ≡ (a + 1) + d = omega arith in
      ap (λ o. first_of (o ∷ map f (range_with_len (a + 1) n))) (none a (omega arith) (omega arith))
      ∙ some_from d n (a + 1) x (omega (arith, lt)) (λ k ge lt'. none k (omega (arith, ge)) (omega (arith, lt'))) (sym (ap f e) ∙ here)
