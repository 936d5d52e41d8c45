-- Values of symbols that are kept.
use Rattle.std.proofs.Common.{◌≡◌, ℕ, ◌-◌, List, [], ◌∷◌, ◌++◌, Bool, true, false, Some, None, length, get_or, replicate, refl, ap, ◌∙◌, suc, zero, arith, sym, subst, inl, inr}
use Rattle.std.specs.Prelude.{slice_get}
use Rattle.std.proofs.Math.ListN.{get_or-append}
use Rattle.std.proofs.lemmas.Bool.{cases_lt}
use Rattle.std.proofs.lemmas.List.{length-append, length-replicate, get_or-append_right}
use Rattle.elf_dynamic.specs.Symbol.{symbols}
use Rattle.image.specs.Bound.{Bound, FirstBound, IsBound}
use Rattle.image.specs.Placement.{Placed}
use Rattle.image.specs.Relocating.{file_at}
use Rattle.image.specs.inside.Bound.{AreValues}

none-known : (n k : ℕ) → slice_get (replicate n false) k ≡ Some true → ⊥
none-known zero k h = let wrong : None ≡ Some true = h in absurd (cc)
none-known (suc n) zero h = let wrong : Some false ≡ Some true = h in absurd (cc)
none-known (suc n) (suc k) h = none-known n k h

-- at first, no value is known
pub values-unknown : (objects : List Placed) (own n : ℕ) (values : List ℕ) (known : List Bool)
    → values ≡ replicate n 0 → known ≡ replicate n false → n ≡ length (symbols (file_at objects own)) → AreValues objects own values known
values-unknown objects own n values known is none count =
    let counted : length values ≡ n = ap length is ∙ length-replicate n 0 in
    record {
      counted = counted ∙ count;
      flags = ap length none ∙ length-replicate n false ∙ sym counted;
      are = λ k there. absurd (none-known n k (sym (ap (λ l. slice_get l k) none) ∙ there));
    }

-- if the first objects are bound and the next one is, the list with the next one is bound
pub first-more : (objects : List Placed) (all : List Bound) (b : Bound) → FirstBound objects all → IsBound objects (length all) b → FirstBound objects (all ++ b ∷ [])
first-more objects all b before is own d h =
    elim (cases_lt own (length all)) [
      | inl l ↦ subst (IsBound objects own) (sym (get_or-append all (b ∷ []) d own l)) (before own d l)
      | inr l ↦
          let e : own ≡ length all = omega (arith, l, h, length-append all (b ∷ [])) in
          let none : own - length all ≡ 0 = omega (arith, e) in
          subst (IsBound objects own) (sym (get_or-append_right all (b ∷ []) (length all) own d refl l ∙ ap (λ n. get_or (b ∷ []) n d) none))
          (subst (λ n. IsBound objects n b) (sym e) is)
    ]
