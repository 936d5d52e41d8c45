-- Whether the names of symbols differ doesn't depend on the order of the symbols.
use Rattle.std.proofs.Common.{◌≡◌, ◌≢◌, ℕ, ◌<◌, Bool, true, false, List, length, arith, refl, ◌∙◌, sym, ap, get_or}
use Rattle.std.specs.List.{IsDistinct}
use Rattle.std.specs.List.Sorted.{IsPermutation}
use Rattle.std.specs.Str.{bytes_eq}
use Rattle.std.proofs.lemmas.List.{get_or_default}
use Rattle.std.proofs.lemmas.Map.Keys.{IsDistinct-from_apart, IsDistinct-IsPermutation, apart_from_distinct}
use Rattle.std.proofs.lemmas.Slice.Eq.{bytes_eq-Decides}
use Rattle.elf_dynamic.specs.Strings.{name_of}
use Rattle.hash_check.specs.inside.Names.{AllDiffer}

share : List ℕ → ℕ → ℕ → Bool
share file i j = bytes_eq (name_of file i) (name_of file j)

share-same : (file : List ℕ) (i j : ℕ) → share file i j ≡ true → name_of file i ≡ name_of file j
unfolding share
share-same file i j e = (bytes_eq-Decides (name_of file i) (name_of file j)).0 e

same-share : (file : List ℕ) (i j : ℕ) → name_of file i ≡ name_of file j → share file i j ≡ true
unfolding share
same-share file i j e = (bytes_eq-Decides (name_of file i) (name_of file j)).1 e

apart : (file : List ℕ) (i j : ℕ) → name_of file i ≢ name_of file j → share file i j ≡ false
apart file i j ne = elim (share file i j) as (λ v. share file i j ≡ v → v ≡ false) [ true ↦ λ e. absurd (ne (share-same file i j e)) | false ↦ λ e. refl ] refl

share-flips : (file : List ℕ) (i j : ℕ) → share file i j ≡ share file j i
share-flips file i j = elim (share file i j) as (λ v. share file i j ≡ v → v ≡ share file j i) [
  | true ↦ λ e. sym (same-share file j i (sym (share-same file i j e)))
  | false ↦ λ e. sym (apart file j i (λ same. let wrong : true ≡ false = sym (same-share file i j (sym same)) ∙ e in cc))
] refl

distinct-from-differ : (file xs : List ℕ) → AllDiffer file xs → IsDistinct (share file) xs
distinct-from-differ file xs h = IsDistinct-from_apart (share file) xs (λ i j d less lt. apart file (get_or xs i d) (get_or xs j d) (λ same.
    let early : i < length xs = omega arith in
    h.differ i j less lt (ap (name_of file) (get_or_default xs i 0 d early) ∙ same ∙ ap (name_of file) (get_or_default xs j d 0 lt))))

differ-from-distinct : (file xs : List ℕ) → IsDistinct (share file) xs → AllDiffer file xs
differ-from-distinct file xs h = record {
  differ = λ i j less lt same. let wrong : false ≡ true = sym (apart_from_distinct (share file) xs i j 0 h less lt) ∙ same-share file (get_or xs i 0) (get_or xs j 0) same in absurd (cc);
}

pub all-differ-moved : (file xs ys : List ℕ) → IsPermutation xs ys → AllDiffer file xs → AllDiffer file ys
all-differ-moved file xs ys moved h = differ-from-distinct file ys (IsDistinct-IsPermutation (share file) (share-flips file) xs ys moved (distinct-from-differ file xs h))
