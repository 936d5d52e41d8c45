-- The exported symbols in another order, and their names.
use Rattle.std.proofs.Common.{◌≡◌, ℕ, Bool, true, false, List, ◌∙◌, sym, ap, subst, get_or, eqb, map}
use Rattle.std.specs.Prelude.{not}
use Rattle.std.specs.List.{All, list_any}
use Rattle.std.specs.List.Sorted.{IsPermutation}
use Rattle.std.proofs.lemmas.Bool.{eqb-true, eq-eqb}
use Rattle.std.proofs.lemmas.List.{get_or_default}
use Rattle.std.proofs.lemmas.List.Folds.{Any-from_list_any, list_any_at}
use Rattle.std.proofs.lemmas.List.Sorted.{IsPermutation-refl, list_any-IsPermutation, All-permutation}
use Rattle.elf_dynamic.specs.Strings.{name_of}
use Rattle.hash_check.specs.Definition.{has_duplicate_definition}
use Rattle.hash_check.specs.Export.{is_exported, exported_symbols}
use Rattle.hash_check.specs.inside.Names.{AllDiffer, AreExports, IsWhole}
use Rattle.hash_check.proofs.SharedNames.{stands, exported-passes, not-differ}

-- if the exported symbols were reordered, the list has all of them, and the names are theirs
pub whole-moved : (file ys : List ℕ) → IsPermutation (exported_symbols file) ys → IsWhole file ys
whole-moved file ys moved = record {
  stands = λ i is.
      let s = stands file i is in
      let xs : List ℕ = exported_symbols file in
      let here : list_any (λ j. eqb j i) (exported_symbols file) ≡ true = list_any_at (λ j. eqb j i) xs s.place 0 s.within (eq-eqb (get_or xs s.place 0) i s.is) in
      let a = Any-from_list_any (λ j. eqb j i) ys (sym (list_any-IsPermutation (λ j. eqb j i) xs ys moved) ∙ here) in
      (a.0, a.2, get_or_default ys a.0 0 a.1 a.2 ∙ a.3 ∙ eqb-true a.1 i a.4);
}

pub exports-moved : (file ys : List ℕ) (names : List (List ℕ)) → IsPermutation (exported_symbols file) ys → names ≡ map (name_of file) ys → AreExports file ys names
exports-moved file ys names moved is = record {
  exported = All-permutation (λ i. is_exported file i ≡ true) (exported_symbols file) ys moved (exported-passes file);
  named = is;
}

-- if a list is equal to that of the exported symbols, it has all of them, and the names are theirs
pub whole-all : (file ys : List ℕ) → ys ≡ exported_symbols file → IsWhole file ys
whole-all file ys is = subst (IsWhole file) (sym is) (whole-moved file (exported_symbols file) (IsPermutation-refl (exported_symbols file)))

pub exports-all : (file ys : List ℕ) (names : List (List ℕ)) → ys ≡ exported_symbols file → names ≡ map (name_of file) ys → AreExports file ys names
exports-all file ys names is named = record {
  exported = subst (All (λ i. is_exported file i ≡ true)) (sym is) (exported-passes file);
  named = named;
}

-- if `b` says whether the names of the reordered exported symbols differ, the test for duplicates is the
-- opposite of `b`
told : (file ys : List ℕ) → IsPermutation (exported_symbols file) ys → (b : Bool) → (b ≡ true → AllDiffer file ys) → (AllDiffer file ys → b ≡ true) → has_duplicate_definition file ≡ not b
told file ys moved b to from = sym (not-differ file ys moved b to from)

pub told-none : (file ys : List ℕ) → IsPermutation (exported_symbols file) ys → (b : Bool) → (b ≡ true → AllDiffer file ys) → (AllDiffer file ys → b ≡ true) → b ≡ true
    → has_duplicate_definition file ≡ false
told-none file ys moved b to from is = told file ys moved b to from ∙ ap not is

pub told-some : (file ys : List ℕ) → IsPermutation (exported_symbols file) ys → (b : Bool) → (b ≡ true → AllDiffer file ys) → (AllDiffer file ys → b ≡ true) → b ≡ false
    → has_duplicate_definition file ≡ true
told-some file ys moved b to from is = told file ys moved b to from ∙ ap not is
