-- The tests of admission decide the conditions that they are named for.
use Rattle.std.proofs.Common.{◌≡◌, ◌≢◌, ℕ, ◌<◌, ◌+◌, ◌%◌, Bool, true, false, List, length, arith, refl, ◌∙◌, sym, ap, inl, inr, get_or, eqb, None, [], ◌∷◌}
use Rattle.std.specs.Prelude.{◌&&◌, not, nat_lt}
use Rattle.std.specs.List.{list_any, range_with_len}
use Rattle.std.specs.Cmp.Derive.{both_true}
use Rattle.std.proofs.lemmas.Bool.{cases_lt, eqb-true, eq-eqb, eqb-false, ltb-true, lt-ltb, and_parts}
use Rattle.std.proofs.lemmas.Bool.Decides.{eqb_tells}
use Rattle.std.proofs.lemmas.Nat.{mod_below}
use Rattle.std.proofs.lemmas.List.Folds.{Any-from_list_any, list_any_at}
use Rattle.std.proofs.lemmas.List.FromFn.{get_or-range_with_len, length-range_with_len, get_or-map-range_with_len, length-map-range_with_len}
use Rattle.std.proofs.lemmas.List.Sums.{AllPass-from_list_all, list_all-from_AllPass}
use Rattle.elf_file.specs.FirstOf.{◌when◌, first_of}
use Rattle.elf_dynamic.specs.Strings.{name_of}
use Rattle.elf_dynamic.specs.HashTable.{buckets, chains}
use Rattle.hash_check.specs.Hash.{elf_hash}
use Rattle.hash_check.specs.Export.{exported_symbols}
use Rattle.hash_check.specs.Definition.{has_duplicate_definition, HasUniqueNames, HasSharedName}
use Rattle.hash_check.specs.Walk.{walk, Ends, Meets}
use Rattle.hash_check.specs.HashTable.{AreIndices, bucket_of, HasBucket, HasIndexWords, HasEndingWalks, MeetsExports, HasGoodTable}
use Rattle.hash_check.specs.Admission.{walked, are_indices, ends_soon, has_good_words, has_ending_walks, is_met, meets_exports, has_bad_hash_table, admission_refusal}
use Rattle.hash_check.specs.declared.refusal.AdmitRefusal.TheVariants.{DuplicateDefinition, BadHashTable}
use Rattle.hash_check.proofs.Walks.{depth-small, depth-from-ends}
use Rattle.hash_check.proofs.Searching.{walked-is}
use Rattle.hash_check.proofs.SharedNames.{StandsIn, stands, exported-passes, unique-from-test, shared-from-test}
use Rattle.hash_check.proofs.Definitions.{bucket-within, bucket-ends}

ends-true : (c : List ℕ) (from : ℕ) → ends_soon c from ≡ true → Ends c from
unfolding ends_soon
ends-true c from is =
    let a = Any-from_list_any (λ k. eqb (walk c from k) 0) (range_with_len 0 (length c)) is in
    record { steps = a.1; arrives = eqb-true (walk c from a.1) 0 a.4 }

ends-test : (c : List ℕ) (from : ℕ) → AreIndices (length c) c → from < length c → Ends c from → ends_soon c from ≡ true
unfolding ends_soon
ends-test c from words lt h =
    let d = depth-from-ends c from h in
    let small : d.0 < length c = depth-small c from d.0 words lt d.1 in
    let e : get_or (range_with_len 0 (length c)) d.0 0 ≡ d.0 = let bare : 0 + d.0 ≡ d.0 = omega arith in get_or-range_with_len 0 (length c) d.0 0 small ∙ bare in
    list_any_at (λ k. eqb (walk c from k) 0) (range_with_len 0 (length c)) d.0 0 (omega (arith, small, length-range_with_len 0 (length c)))
    (eq-eqb (walk c from (get_or (range_with_len 0 (length c)) d.0 0)) 0 (ap (walk c from) e ∙ d.1.arrives))

meets-true : (c : List ℕ) (from index : ℕ) → AreIndices (length c) c → from < length c → Ends c from → list_any (λ i. eqb i index) (walked c from) ≡ true → Meets c from index
meets-true c from index words lt ends is =
    let d = depth-from-ends c from ends in
    let w = walked-is c from d.0 words lt d.1 in
    let a = Any-from_list_any (λ i. eqb i index) (walked c from) is in
    let less : a.0 < d.0 = omega (arith, a.2, ap length w, length-map-range_with_len (walk c from) 0 d.0) in
    let bare : 0 + a.0 ≡ a.0 = omega arith in
    let at : get_or (walked c from) a.0 a.1 ≡ walk c from a.0 = ap (λ l. get_or l a.0 a.1) w ∙ get_or-map-range_with_len (walk c from) 0 d.0 a.0 a.0 a.1 less bare in
    record {
      steps = a.0;
      arrives = sym at ∙ a.3 ∙ eqb-true a.1 index a.4;
      before = λ k le z. let under : k < d.0 = omega arith in d.1.before k under z;
    }

meets-test : (c : List ℕ) (from index : ℕ) → AreIndices (length c) c → from < length c → Ends c from → Meets c from index → list_any (λ i. eqb i index) (walked c from) ≡ true
meets-test c from index words lt ends h =
    let d = depth-from-ends c from ends in
    let w = walked-is c from d.0 words lt d.1 in
    let less : h.steps < d.0 = elim (cases_lt h.steps d.0) [ inl l ↦ l | inr past ↦ absurd (h.before d.0 past d.1.arrives) ] in
    let bare : 0 + h.steps ≡ h.steps = omega arith in
    let at : get_or (walked c from) h.steps 0 ≡ walk c from h.steps = ap (λ l. get_or l h.steps 0) w ∙ get_or-map-range_with_len (walk c from) 0 d.0 h.steps h.steps 0 less bare in
    list_any_at (λ i. eqb i index) (walked c from) h.steps 0 (omega (arith, less, ap length w, length-map-range_with_len (walk c from) 0 d.0))
    (eq-eqb (get_or (walked c from) h.steps 0) index (at ∙ h.arrives))

indices-true : (n : ℕ) (ws : List ℕ) → are_indices n ws ≡ true → AreIndices n ws
indices-true n ws is k d lt = ltb-true (get_or ws k d) n (AllPass-from_list_all (λ w. nat_lt w n) ws is k d lt)

indices-test : (n : ℕ) (ws : List ℕ) → AreIndices n ws → are_indices n ws ≡ true
indices-test n ws h = list_all-from_AllPass (λ w. nat_lt w n) ws (λ k d lt. lt-ltb (get_or ws k d) n (h k d lt))

not-true : (b : Bool) → not b ≡ true → b ≡ false
not-true true e = sym e
not-true false e = refl

-- the test of the words passes exactly if there is a bucket and every word is an index
words-true : (file : List ℕ) → has_good_words file ≡ true → HasBucket file × HasIndexWords file
unfolding has_good_words
words-true file is =
    let n : ℕ = length (chains file) in
    let p = and_parts (not (eqb (length (buckets file)) 0)) (are_indices (length (chains file)) (buckets file) && are_indices (length (chains file)) (chains file)) is in
    let q = and_parts (are_indices (length (chains file)) (buckets file)) (are_indices (length (chains file)) (chains file)) p.1 in
    let some : length (buckets file) ≢ 0 = eqb-false (length (buckets file)) 0 (not-true (eqb (length (buckets file)) 0) p.0) in
    (omega arith, record { bucket_words = indices-true n (buckets file) q.0; chain_words = indices-true n (chains file) q.1 })

pub words_test : (file : List ℕ) → HasBucket file × HasIndexWords file → has_good_words file ≡ true
unfolding has_good_words
words_test file h =
    let some : length (buckets file) ≢ 0 = omega (arith, h.0) in
    let none : not (eqb (length (buckets file)) 0) ≡ true = elim (eqb_tells (length (buckets file)) 0) [ inl t ↦ absurd (some t.1) | inr f ↦ ap not f.0 ] in
    both_true none (both_true (indices-test (length (chains file)) (buckets file) h.1.bucket_words) (indices-test (length (chains file)) (chains file) h.1.chain_words))

-- if the test of the walks passes, the walk from every bucket ends
walks-true : (file : List ℕ) → has_ending_walks file ≡ true → HasEndingWalks file
unfolding has_ending_walks
walks-true file is k d lt = ends-true (chains file) (get_or (buckets file) k d) (AllPass-from_list_all (ends_soon (chains file)) (buckets file) is k d lt)

walks-test : (file : List ℕ) → HasIndexWords file → HasEndingWalks file → has_ending_walks file ≡ true
unfolding has_ending_walks
walks-test file words h =
    list_all-from_AllPass (ends_soon (chains file)) (buckets file) (λ k d lt. ends-test (chains file) (get_or (buckets file) k d) words.chain_words (words.bucket_words k d lt) (h k d lt))

-- if the test of the exported symbols passes, every exported symbol is met on its walk
exports-true : (file : List ℕ) → HasBucket file → HasIndexWords file → HasEndingWalks file → meets_exports file ≡ true → MeetsExports file
unfolding meets_exports is_met
exports-true file some words ends is i here =
    let s : StandsIn i (exported_symbols file) = stands file i here in
    let passes : is_met file (get_or (exported_symbols file) s.place 0) ≡ true = AllPass-from_list_all (is_met file) (exported_symbols file) is s.place 0 s.within in
    let from : ℕ = bucket_of (buckets file) (elf_hash (name_of file i)) in
    let at : ℕ = elf_hash (name_of file i) % length (buckets file) in
    let room : 0 < length (buckets file) = omega (arith, some) in
    let lt : elf_hash (name_of file i) % length (buckets file) < length (buckets file) = mod_below (elf_hash (name_of file i)) (length (buckets file)) room in
    meets-true (chains file) from i words.chain_words (words.bucket_words at 0 lt) (ends at 0 lt) (ap (is_met file) (sym s.is) ∙ passes)

exports-test : (file : List ℕ) → HasGoodTable file → meets_exports file ≡ true
unfolding meets_exports is_met
exports-test file h =
    list_all-from_AllPass (is_met file) (exported_symbols file) (λ k d lt.
    let i : ℕ = get_or (exported_symbols file) k d in
    let hash : ℕ = elf_hash (name_of file i) in
    meets-test (chains file) (bucket_of (buckets file) hash) i h.words.chain_words (bucket-within file hash h) (bucket-ends file hash h) (h.met i (exported-passes file k d lt)))

good-test : (file : List ℕ) → HasGoodTable file → has_bad_hash_table file ≡ false
unfolding has_bad_hash_table
good-test file h =
    ap not (both_true (words_test file (h.some_bucket, h.words)) (both_true (walks-test file h.words h.ends) (exports-test file h)))

not-false : (b : Bool) → not b ≡ false → b ≡ true
not-false true e = refl
not-false false e = absurd (cc)

-- a table that the test doesn't find bad can be trusted
pub good-from-test : (file : List ℕ) → has_bad_hash_table file ≡ false → HasGoodTable file
unfolding has_bad_hash_table
good-from-test file is =
    let all : (has_good_words file && (has_ending_walks file && meets_exports file)) ≡ true = not-false (has_good_words file && (has_ending_walks file && meets_exports file)) is in
    let p = and_parts (has_good_words file) (has_ending_walks file && meets_exports file) all in
    let q = and_parts (has_ending_walks file) (meets_exports file) p.1 in
    let words : HasBucket file × HasIndexWords file = words-true file p.0 in
    let ends : HasEndingWalks file = walks-true file q.0 in
    record { some_bucket = words.0; words = words.1; ends = ends; met = exports-true file words.0 words.1 ends q.1 }

-- an answer that is true exactly if the table can be trusted is the opposite of the test
pub bad_test : (file : List ℕ) (good : Bool) → (good ≡ true → HasGoodTable file) → (HasGoodTable file → good ≡ true) → not good ≡ has_bad_hash_table file
bad_test file true to from = sym (good-test file (to refl))
bad_test file false to from =
    elim (has_bad_hash_table file) as (λ b. has_bad_hash_table file ≡ b → true ≡ b) [
      | true ↦ λ e. refl
      | false ↦ λ e. let wrong : false ≡ true = from (good-from-test file e) in cc
    ] refl

-- if admission refuses nothing, neither of its tests applies, no two exported symbols share a name, and
-- the hash table can be trusted
refused-no-more : (a b : Bool) → first_of ((DuplicateDefinition when a) ∷ (BadHashTable when b) ∷ []) ≡ None → (a ≡ false) × (b ≡ false)
refused-no-more true b e = absurd (cc)
refused-no-more false true e = absurd (cc)
refused-no-more false false e = (refl, refl)

pub admitted_unique : (file : List ℕ) → admission_refusal file ≡ None → HasUniqueNames file
unfolding admission_refusal
admitted_unique file is = unique-from-test file (refused-no-more (has_duplicate_definition file) (has_bad_hash_table file) is).0

pub admitted_table : (file : List ℕ) → admission_refusal file ≡ None → HasGoodTable file
unfolding admission_refusal
admitted_table file is = good-from-test file (refused-no-more (has_duplicate_definition file) (has_bad_hash_table file) is).1

pub not_good : (file : List ℕ) → true ≡ has_bad_hash_table file → HasGoodTable file → ⊥
not_good file is good = let wrong : true ≡ false = is ∙ good-test file good in cc

pub shared_names : (file : List ℕ) → true ≡ has_duplicate_definition file → HasSharedName file
shared_names file is = shared-from-test file (sym is)

pub unique_names : (file : List ℕ) → false ≡ has_duplicate_definition file → HasUniqueNames file
unique_names file is = unique-from-test file (sym is)
