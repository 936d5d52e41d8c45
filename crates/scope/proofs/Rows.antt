-- The rows of definitions found for symbols.
use Rattle.std.proofs.Common.{◌≡◌, ℕ, ◌<◌, ◌+◌, List, [], length, map, arith, sym, ap, ◌∙◌, subst, get_or, set, Option, None, inl, inr}
use Rattle.std.proofs.lemmas.Bool.{cases_lt, cases_eq}
use Rattle.std.proofs.lemmas.List.{length-set, get_or-set_other, get_or-set_same, length-map, map-set}
use Rattle.elf_dynamic.specs.Strings.{name_of}
use Rattle.hash_check.specs.Numbered.{nth_file, nth_symbol, name_in, AreNumbered}
use Rattle.hash_check.specs.declared.numbered.NumberedSymbol.{NumberedSymbol}
use Rattle.scope.specs.Objects.{Named}
use Rattle.scope.specs.Lookup.{lookup}
use Rattle.scope.specs.declared.target.Target.{Target}
use Rattle.scope.specs.inside.Definitions.{files_of, nth_found, HaveRoom, AreFound, IsPutAt, IsFound}

put-row : (rows : List (List (Option Target))) (place symbol : ℕ) (found : Option Target) → place < length rows → symbol < length (get_or rows place [])
    → IsPutAt rows (set rows place (set (get_or rows place []) symbol found)) place symbol found
put-row rows place symbol found lt room =
    let row : List (Option Target) = set (get_or rows place []) symbol found in
    let here : get_or (set rows place (set (get_or rows place []) symbol found)) place [] ≡ set (get_or rows place []) symbol found = get_or-set_same rows place row [] lt in
    record {
      size = length-set rows place row;
      sizes = λ p. elim (cases_eq p place) [
        | inl same ↦
            ap (λ q. length (get_or (set rows place row) q [])) same ∙ ap length here ∙ length-set (get_or rows place []) symbol found ∙ ap (λ q. length (get_or rows q [])) (sym same)
        | inr other ↦ ap length (get_or-set_other rows place p row [] other)
      ];
      here = ap (λ r. get_or r symbol None) here ∙ get_or-set_same (get_or rows place []) symbol found None room;
      others = λ p i not. elim (cases_eq p place) [
        | inl same ↦
            ap (λ q. get_or (get_or (set rows place row) q []) i None) same ∙ ap (λ r. get_or r i None) here
            ∙ get_or-set_other (get_or rows place []) symbol i found None (λ e. not (same, e)) ∙ ap (λ q. get_or (get_or rows q []) i None) (sym same)
        | inr other ↦ ap (λ r. get_or r i None) (get_or-set_other rows place p row [] other)
      ];
    }

-- if an element of a row is set, and the row is put back, `IsPutAt` is true of the old and the new rows
pub put-at : {A : Type 0} (items : A → List (Option Target)) (rows : List A) (place symbol : ℕ) (v : A) (found : Option Target) → place < length rows
    → symbol < length (get_or (map items rows) place []) → items v ≡ set (get_or (map items rows) place []) symbol found
    → IsPutAt (map items rows) (map items (set rows place v)) place symbol found
put-at items rows place symbol v found lt room is =
    subst (λ new. IsPutAt (map items rows) new place symbol found)
    (sym (map-set items rows place v ∙ ap (set (map items rows) place) is))
    (put-row (map items rows) place symbol found (omega (arith, lt, length-map rows items)) room)

room-more : (objects : List Named) (rows new : List (List (Option Target))) (place symbol : ℕ) (found : Option Target) → HaveRoom objects rows → IsPutAt rows new place symbol found
    → HaveRoom objects new
room-more objects rows new place symbol found room put = record {
  size = put.size ∙ room.size;
  sizes = λ p lt. put.sizes p ∙ room.sizes p lt;
}

-- if the definition found for symbol number `at` is stored, the rows have the definitions of one symbol
-- more
pub found-more : (objects : List Named) (all : List NumberedSymbol) (at : ℕ) (rows new : List (List (Option Target))) (found : Option Target) → AreFound objects all at rows
    → found ≡ lookup objects (nth_symbol all at).object (name_in (files_of objects) (nth_symbol all at))
    → IsPutAt rows new (nth_symbol all at).object (nth_symbol all at).symbol found → AreFound objects all (at + 1) new
found-more objects all at rows new found are is put =
    let look : ℕ → ℕ → Option Target = λ o s. lookup objects o (name_of (nth_file (files_of objects) o) s) in
    let base : nth_found new (nth_symbol all at).object (nth_symbol all at).symbol ≡ lookup objects (nth_symbol all at).object (name_in (files_of objects) (nth_symbol all at)) = put.here ∙ is in
    let moved : (k : ℕ) → (nth_symbol all k).object ≡ (nth_symbol all at).object → (nth_symbol all k).symbol ≡ (nth_symbol all at).symbol
    → nth_found new (nth_symbol all k).object (nth_symbol all k).symbol ≡ look (nth_symbol all k).object (nth_symbol all k).symbol =
    λ k eo es. subst (λ o. nth_found new o (nth_symbol all k).symbol ≡ look o (nth_symbol all k).symbol) (sym eo)
    (subst (λ s. nth_found new (nth_symbol all at).object s ≡ look (nth_symbol all at).object s) (sym es) base) in
    record {
      room = room-more objects rows new (nth_symbol all at).object (nth_symbol all at).symbol found are.room put;
      known = λ k lt. elim (cases_eq (nth_symbol all k).object (nth_symbol all at).object) [
        | inl eo ↦ elim (cases_eq (nth_symbol all k).symbol (nth_symbol all at).symbol) [
          | inl es ↦ moved k eo es
          | inr other ↦ put.others (nth_symbol all k).object (nth_symbol all k).symbol (λ both. other both.1) ∙ are.known k (before k lt (λ e. other (ap (λ i. (nth_symbol all i).symbol) e)))
        ]
        | inr other ↦ put.others (nth_symbol all k).object (nth_symbol all k).symbol (λ both. other both.0) ∙ are.known k (before k lt (λ e. other (ap (λ i. (nth_symbol all i).object) e)))
      ];
    }
  where
    before : (k : ℕ) → k < at + 1 → (k ≡ at → ⊥) → k < at
    before k lt other = elim (cases_lt k at) [ inl less ↦ less | inr more ↦ absurd (other (omega (arith, lt, more))) ]

-- if the rows have the definitions of all symbols in the list, `IsFound` is true of them
pub found-all : (objects : List Named) (all : List NumberedSymbol) (rows : List (List (Option Target))) → AreNumbered (files_of objects) all → AreFound objects all (length all) rows
    → IsFound objects rows
found-all objects all rows numbered are = record {
  room = are.room;
  found = λ p i lt low high.
      let h = numbered.are.every p i (omega (arith, lt, length-map objects (λ (o : Named). o.file))) low high in
      subst (λ o. nth_found rows o i ≡ lookup objects o (name_of (nth_file (files_of objects) o) i)) h.object
      (subst (λ s. nth_found rows (nth_symbol all h.at).object s ≡ lookup objects (nth_symbol all h.at).object (name_of (nth_file (files_of objects) (nth_symbol all h.at).object) s)) h.symbol
      (are.known h.at h.within));
}
