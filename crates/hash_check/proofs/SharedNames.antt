-- The meaning of the test for names that are exported twice, and proofs for the code that decides it.
use Rattle.std.proofs.Common.{◌≡◌, ℕ, ◌<◌, ◌≤◌, ◌+◌, ◌-◌, Bool, true, false, cond, List, ◌∷◌, length, arith, refl, ◌∙◌, sym, ap, inl, inr, suc, zero, get_or}
use Rattle.std.specs.Prelude.{◌&&◌, not}
use Rattle.std.specs.List.{filter, list_any, range_with_len, All, AllPairs}
use Rattle.std.specs.List.Sorted.{IsPermutation, IsStrictlyIncreasing}
use Rattle.std.specs.Str.{bytes_eq}
use Rattle.std.specs.Cmp.Derive.{both_true}
use Rattle.std.proofs.lemmas.Bool.{cases_lt, cases_eq, and_parts}
use Rattle.std.proofs.lemmas.List.FromFn.{length-range_with_len, get_or-range_with_len}
use Rattle.std.proofs.lemmas.List.Folds.{Any-from_list_any, list_any_at}
use Rattle.std.proofs.lemmas.List.Elements.{filter_passes}
use Rattle.std.proofs.lemmas.List.Kept.{AllPairs-from_increasing, IsStrictlyIncreasing-filter}
use Rattle.std.proofs.lemmas.List.Sorted.{All-permutation, IsPermutation-sym}
use Rattle.std.proofs.lemmas.Slice.Eq.{bytes_eq-Decides}
use Rattle.elf_dynamic.specs.Symbol.{symbols}
use Rattle.elf_dynamic.specs.Strings.{name_of}
use Rattle.hash_check.specs.Export.{is_exported, exported_symbols}
use Rattle.hash_check.specs.Definition.{is_exported_as, HasUniqueNames, HasSharedName, has_duplicate_definition}
use Rattle.hash_check.specs.inside.Names.{IsSymbol, AllDiffer}
use Rattle.hash_check.proofs.Exported.{exported_some, exported_within}
use Rattle.hash_check.proofs.Moved.{all-differ-moved}

-- if a symbol is exported under a name, it is exported and has this name, and the other way round
pub exported-as : (file name : List ℕ) (i : ℕ) → is_exported_as file name i ≡ true → is_exported file i ≡ true
unfolding is_exported_as
exported-as file name i is = (and_parts (is_exported file i) (bytes_eq (name_of file i) name) is).0

pub named-as : (file name : List ℕ) (i : ℕ) → is_exported_as file name i ≡ true → name_of file i ≡ name
unfolding is_exported_as
named-as file name i is = (bytes_eq-Decides (name_of file i) name).0 (and_parts (is_exported file i) (bytes_eq (name_of file i) name) is).1

pub as-exported : (file name : List ℕ) (i : ℕ) → is_exported file i ≡ true → name_of file i ≡ name → is_exported_as file name i ≡ true
unfolding is_exported_as
as-exported file name i is same = both_true is ((bytes_eq-Decides (name_of file i) name).1 same)

shared_before : List ℕ → ℕ → Bool
shared_before file j = is_exported file j && list_any (is_exported_as file (name_of file j)) (range_with_len 1 (j - 1))

-- if the test finds two symbols, two exported symbols share a name
pub shared-from-test : (file : List ℕ) → has_duplicate_definition file ≡ true → HasSharedName file
unfolding has_duplicate_definition
shared-from-test file is =
    let n : ℕ = length (symbols file) - 1 in
    let a = Any-from_list_any (λ j. is_exported file j && list_any (is_exported_as file (name_of file j)) (range_with_len 1 (j - 1))) (range_with_len 1 n) is in
    let p = and_parts (is_exported file a.1) (list_any (is_exported_as file (name_of file a.1)) (range_with_len 1 (a.1 - 1))) a.4 in
    let b = Any-from_list_any (is_exported_as file (name_of file a.1)) (range_with_len 1 (a.1 - 1)) p.1 in
    let room : b.0 < a.1 - 1 = omega (arith, b.2, length-range_with_len 1 (a.1 - 1)) in
    let at : b.1 ≡ 1 + b.0 = sym b.3 ∙ get_or-range_with_len 1 (a.1 - 1) b.0 b.1 room in
    record {
      first = b.1;
      second = a.1;
      order = omega (arith, at, room);
      first_exported = exported-as file (name_of file a.1) b.1 b.4;
      second_exported = p.0;
      same = named-as file (name_of file a.1) b.1 b.4;
    }

in-range : (p : ℕ → Bool) (n i : ℕ) → 1 ≤ i → i < 1 + n → p i ≡ true → list_any p (range_with_len 1 n) ≡ true
in-range p n i low high is =
    let room : i - 1 < n = omega arith in
    let at : get_or (range_with_len 1 n) (i - 1) 0 ≡ 1 + (i - 1) = get_or-range_with_len 1 n (i - 1) 0 room in
    let same : 1 + (i - 1) ≡ i = omega arith in
    list_any_at p (range_with_len 1 n) (i - 1) 0 (omega (arith, room, length-range_with_len 1 n)) (ap p (at ∙ same) ∙ is)

-- if two exported symbols share a name, the test finds two symbols
pub test-from-shared : (file : List ℕ) → HasSharedName file → has_duplicate_definition file ≡ true
unfolding has_duplicate_definition
test-from-shared file h =
    let some : 1 ≤ h.first = exported_some file h.first h.first_exported in
    let within : h.second < length (symbols file) = exported_within file h.second h.second_exported in
    let before : h.first < h.second = h.order in
    let inner : list_any (is_exported_as file (name_of file h.second)) (range_with_len 1 (h.second - 1)) ≡ true =
    in-range (is_exported_as file (name_of file h.second)) (h.second - 1) h.first some (omega arith) (as-exported file (name_of file h.second) h.first h.first_exported h.same) in
    in-range (λ j. is_exported file j && list_any (is_exported_as file (name_of file j)) (range_with_len 1 (j - 1))) (length (symbols file) - 1) h.second (omega arith) (omega arith)
    (both_true h.second_exported inner)

pub unique-from-test : (file : List ℕ) → has_duplicate_definition file ≡ false → HasUniqueNames file
unique-from-test file none = record {
  unique = λ i j fi fj same. elim (cases_lt i j) [
    | inl less ↦
        let wrong : true ≡ false = sym (test-from-shared file (record { first = i; second = j; order = less; first_exported = fi; second_exported = fj; same = same })) ∙ none in
        absurd (cc)
    | inr ge ↦ elim (cases_lt j i) [
      | inl less ↦
          let wrong : true ≡ false = sym (test-from-shared file (record { first = j; second = i; order = less; first_exported = fj; second_exported = fi; same = sym same })) ∙ none in
          absurd (cc)
      | inr le ↦ omega arith
    ]
  ];
}

-- the list of the exported symbols has only exported symbols
pub exported-passes : (file : List ℕ) → All (λ i. is_exported file i ≡ true) (exported_symbols file)
unfolding exported_symbols
exported-passes file = filter_passes (is_exported file) (range_with_len 1 (length (symbols file) - 1))

range-rises : (a n : ℕ) → IsStrictlyIncreasing (range_with_len a n)
range-rises a n k lt =
    let room : k + 1 < n = omega (arith, lt, length-range_with_len a n) in
    let less : k < n = omega arith in
    omega (arith, get_or-range_with_len a n k 0 less, get_or-range_with_len a n (k + 1) 0 room)

exported-rises : (file : List ℕ) → AllPairs (λ x y. x < y) (exported_symbols file)
unfolding exported_symbols
exported-rises file =
    AllPairs-from_increasing (filter (is_exported file) (range_with_len 1 (length (symbols file) - 1)))
    (IsStrictlyIncreasing-filter (is_exported file) (range_with_len 1 (length (symbols file) - 1)) (range-rises 1 (length (symbols file) - 1)))

pub exported-symbols : (file : List ℕ) → All (IsSymbol file) (exported_symbols file)
exported-symbols file = λ k d lt.
    let is : is_exported file (get_or (exported_symbols file) k d) ≡ true = exported-passes file k d lt in
    record { some = exported_some file (get_or (exported_symbols file) k d) is; within = exported_within file (get_or (exported_symbols file) k d) is }

-- a number is in a list
pub record StandsIn (i : ℕ) (xs : List ℕ) : Type 0 where
  pub place : ℕ
  pub within : place < length xs
  pub is : get_or xs place 0 ≡ i

later : (i x : ℕ) (xs : List ℕ) (b : Bool) → StandsIn i xs → StandsIn i (cond b (x ∷ xs) xs)
later i x xs true h = record { place = suc h.place; within = let lt : h.place < length xs = h.within in omega arith; is = h.is }
later i x xs false h = h

first : (i x : ℕ) (xs : List ℕ) (b : Bool) → b ≡ true → x ≡ i → StandsIn i (cond b (x ∷ xs) xs)
first i x xs true t e = record { place = 0; within = omega arith; is = e }
first i x xs false t e = let wrong : false ≡ true = t in absurd (cc)

-- a number of a range that passes a test is in the filtered range
kept : (p : ℕ → Bool) (a n i : ℕ) → a ≤ i → i < a + n → p i ≡ true → StandsIn i (filter p (range_with_len a n))
kept p a zero i low high is = absurd (omega arith)
kept p a (suc n) i low high is = elim (cases_eq a i) [
  | inl same ↦ first i a (filter p (range_with_len (a + 1) n)) (p a) (ap p same ∙ is) same
  | inr other ↦ later i a (filter p (range_with_len (a + 1) n)) (p a) (kept p (a + 1) n i (omega arith) (omega arith) is)
]

pub stands : (file : List ℕ) (i : ℕ) → is_exported file i ≡ true → StandsIn i (exported_symbols file)
unfolding exported_symbols
stands file i is =
    let some : 1 ≤ i = exported_some file i is in
    let within : i < length (symbols file) = exported_within file i is in
    kept (is_exported file) 1 (length (symbols file) - 1) i some (omega arith) is

-- if the test finds no two symbols, the names of the exported symbols differ
differ-from-test : (file : List ℕ) → has_duplicate_definition file ≡ false → AllDiffer file (exported_symbols file)
differ-from-test file none = record {
  differ = λ i j less lt same.
      let xs : List ℕ = exported_symbols file in
      let early : i < length (exported_symbols file) = omega arith in
      let fi : is_exported file (get_or (exported_symbols file) i 0) ≡ true = exported-passes file i 0 early in
      let fj : is_exported file (get_or (exported_symbols file) j 0) ≡ true = exported-passes file j 0 lt in
      let one : get_or (exported_symbols file) i 0 ≡ get_or (exported_symbols file) j 0 =
      (unique-from-test file none).unique (get_or (exported_symbols file) i 0) (get_or (exported_symbols file) j 0) fi fj same in
      let rise : get_or (exported_symbols file) i 0 < get_or (exported_symbols file) j 0 = exported-rises file i j 0 less lt in
      omega arith;
}

shared-doesn't-differ : (file : List ℕ) → AllDiffer file (exported_symbols file) → HasSharedName file → ⊥
shared-doesn't-differ file h s =
    let a = stands file s.first s.first_exported in
    let b = stands file s.second s.second_exported in
    let same : name_of file (get_or (exported_symbols file) a.place 0) ≡ name_of file (get_or (exported_symbols file) b.place 0) =
    ap (name_of file) a.is ∙ s.same ∙ ap (name_of file) (sym b.is) in
    elim (cases_lt a.place b.place) [
      | inl less ↦ h.differ a.place b.place less b.within same
      | inr ge ↦ elim (cases_lt b.place a.place) [
        | inl less ↦ h.differ b.place a.place less a.within (sym same)
        | inr le ↦
            let at : a.place ≡ b.place = omega arith in
            let one : s.first ≡ s.second = sym a.is ∙ ap (λ k. get_or (exported_symbols file) k 0) at ∙ b.is in
            let order : s.first < s.second = s.order in
            omega arith
      ]
    ]

-- if the names of the exported symbols differ, the test finds no two symbols
pub test-none : (file : List ℕ) → AllDiffer file (exported_symbols file) → has_duplicate_definition file ≡ false
test-none file h = elim (has_duplicate_definition file) as (λ b. has_duplicate_definition file ≡ b → b ≡ false) [
  | true ↦ λ e. absurd (shared-doesn't-differ file h (shared-from-test file e))
  | false ↦ λ e. refl
] refl

-- if the names of the exported symbols don't all differ, the test finds two symbols
pub test-some : (file : List ℕ) → (AllDiffer file (exported_symbols file) → ⊥) → has_duplicate_definition file ≡ true
test-some file h = elim (has_duplicate_definition file) as (λ b. has_duplicate_definition file ≡ b → b ≡ true) [
  | true ↦ λ e. refl
  | false ↦ λ e. absurd (h (differ-from-test file e))
] refl

-- the names of fewer than two symbols differ
pub few-differ : (file : List ℕ) → length (exported_symbols file) < 2 → AllDiffer file (exported_symbols file)
few-differ file few = record { differ = λ i j less lt same. absurd (omega arith) }

pub symbols-moved : (file xs ys : List ℕ) → IsPermutation xs ys → All (IsSymbol file) xs → All (IsSymbol file) ys
symbols-moved file xs ys moved h = All-permutation (IsSymbol file) xs ys moved h

-- if `b` says whether the names of reordered exported symbols differ, the opposite of `b` is the test
-- for duplicates
pub not-differ : (file moved_symbols : List ℕ) → IsPermutation (exported_symbols file) moved_symbols → (b : Bool)
    → (b ≡ true → AllDiffer file moved_symbols) → (AllDiffer file moved_symbols → b ≡ true) → not b ≡ has_duplicate_definition file
not-differ file ys moved true to from = sym (test-none file (all-differ-moved file ys (exported_symbols file) (IsPermutation-sym (exported_symbols file) ys moved) (to refl)))
not-differ file ys moved false to from = sym (test-some file (λ h. let wrong : false ≡ true = from (all-differ-moved file (exported_symbols file) ys moved h) in cc))
