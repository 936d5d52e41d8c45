-- Names differ exactly if the number of each of them is its own position.
use Rattle.std.proofs.Common.{◌≡◌, ◌<◌, ◌≤◌, ◌+◌, ◌-◌, ◌∙◌, ℕ, zero, suc, Bool, List, [], length, map, arith, sym, ap, subst, get_or, inl, inr}
use Rattle.std.specs.Prelude.{◌↔◌, IsTrue}
use Rattle.std.proofs.lemmas.Bool.{cases_lt}
use Rattle.std.proofs.lemmas.List.{get_or-map, length-map}
use Rattle.elf_dynamic.specs.Strings.{name_of}
use Rattle.hash_check.specs.Numbers.{nth_text, AreNumbers, AreOwn, Fall}
use Rattle.hash_check.specs.inside.Names.{AllDiffer}

module _ (file symbols numbers : List ℕ) (h : AreNumbers (map (name_of file) symbols) numbers) where
  count : length (map (name_of file) symbols) ≡ length symbols
  count = length-map symbols (name_of file)

  text : (k : ℕ) → k < length symbols → nth_text (map (name_of file) symbols) k ≡ name_of file (get_or symbols k 0)
  text k lt = get_or-map (name_of file) symbols k 0 [] lt

  pub differ-from-own : AreOwn numbers → AllDiffer file symbols
  differ-from-own own = record {
    differ = λ i j less lt same.
        let early : i < length symbols = omega arith in
        let one : get_or numbers i 0 ≡ get_or numbers j 0 = h.one i j (omega (arith, early, count)) (omega (arith, lt, count)) (text i early ∙ same ∙ sym (text j lt)) in
        omega (arith, one, less, own.own i (omega (arith, early, count, h.size)), own.own j (omega (arith, lt, count, h.size)));
  }

  pub own-from-differ : AllDiffer file symbols → AreOwn numbers
  own-from-differ d = record {
    own = λ k lt.
        let there : k < length symbols = omega (arith, lt, count, h.size) in
        let some : 1 ≤ get_or numbers k 0 = h.some k (omega (arith, there, count)) in
        let within : get_or numbers k 0 - 1 < length symbols = omega (arith, some, count, h.within k (omega (arith, there, count))) in
        let same : name_of file (get_or symbols (get_or numbers k 0 - 1) 0) ≡ name_of file (get_or symbols k 0) =
        sym (text (get_or numbers k 0 - 1) within) ∙ h.same k (omega (arith, there, count)) ∙ text k there in
        elim (cases_lt (get_or numbers k 0 - 1) k) [
          | inl less ↦ absurd (d.differ (get_or numbers k 0 - 1) k less there same)
          | inr ge ↦ elim (cases_lt k (get_or numbers k 0 - 1)) [
            | inl less ↦ absurd (d.differ k (get_or numbers k 0 - 1) less within (sym same))
            | inr le ↦ omega (arith, some, ge, le)
          ]
        ];
  }

-- the names of symbols differ exactly if the number of each is its own position, counted from 1
pub own-tells : (file symbols : List ℕ) (names : List (List ℕ)) (numbers : List ℕ) (b : Bool) → names ≡ map (name_of file) symbols → AreNumbers names numbers → IsTrue b ↔ AreOwn numbers
    → IsTrue b ↔ AllDiffer file symbols
own-tells file symbols names numbers b is h own =
    let g : AreNumbers (map (name_of file) symbols) numbers = subst (λ (l : List (List ℕ)). AreNumbers l numbers) is h in
    (λ t. differ-from-own file symbols numbers g (own.0 t), λ d. own.1 (own-from-differ file symbols numbers g d))

shorter : (names : List (List ℕ)) (j n : ℕ) → Fall names → j + n + 1 < length names → length (nth_text names (j + n + 1)) < length (nth_text names j)
shorter names j zero h lt =
    let some : 1 ≤ j + 0 + 1 = omega arith in
    let at : j + 0 + 1 - 1 ≡ j = omega arith in
    subst (λ i. length (nth_text names (j + 0 + 1)) < length (nth_text names i)) at (h.fall (j + 0 + 1) some lt)
shorter names j (suc n) h lt =
    let some : 1 ≤ j + suc n + 1 = omega arith in
    let at : j + suc n + 1 - 1 ≡ j + n + 1 = omega arith in
    let one : length (nth_text names (j + suc n + 1)) < length (nth_text names (j + n + 1)) =
    subst (λ i. length (nth_text names (j + suc n + 1)) < length (nth_text names i)) at (h.fall (j + suc n + 1) some lt) in
    let rest : length (nth_text names (j + n + 1)) < length (nth_text names j) = shorter names j n h (omega (arith, lt)) in
    omega (arith, one, rest)

-- if each name is shorter than the one before it, the names differ
pub differ-from-fall : (file symbols : List ℕ) (names : List (List ℕ)) → names ≡ map (name_of file) symbols → Fall names → AllDiffer file symbols
differ-from-fall file symbols names is h = record {
  differ = λ i j less lt same.
      let count : length names ≡ length symbols = ap length is ∙ length-map symbols (name_of file) in
      let text : (k : ℕ) → k < length symbols → nth_text names k ≡ name_of file (get_or symbols k 0) =
      λ k there. ap (λ (l : List (List ℕ)). get_or l k []) is ∙ get_or-map (name_of file) symbols k 0 [] there in
      let early : i < length symbols = omega arith in
      let at : i + (j - i - 1) + 1 ≡ j = omega arith in
      let short : length (nth_text names j) < length (nth_text names i) =
      subst (λ k. length (nth_text names k) < length (nth_text names i)) at (shorter names i (j - i - 1) h (omega (arith, at, lt, count))) in
      omega (arith, short, ap length (text i early ∙ same ∙ sym (text j lt)));
}
