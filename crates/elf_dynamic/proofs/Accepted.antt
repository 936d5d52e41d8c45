-- Facts about a file that no test refuses.
use Rattle.std.proofs.Common.{◌≡◌, ℕ, ◌<◌, ◌≤◌, ◌+◌, Bool, true, false, cond, List, [], ◌∷◌, ◌++◌, length, arith, refl, get_or, suc, zero, Some, None, take, drop, filter, nat_lt, length-drop}
use Rattle.std.specs.Prelude.{slice_get, not, ◌||◌, ◌&&◌}
use Rattle.std.specs.List.{list_any, All, AllPairs}
use Rattle.std.proofs.lemmas.List.{length-take}
use Rattle.std.proofs.lemmas.Option.{get_or_from_slice_get, slice_get_within}
use Rattle.std.proofs.lemmas.Bool.Decides.{nat_tests}
use Rattle.elf_file.specs.Segment.{is_load, is_bad_load, is_too_high, has_load, has_bad_load, has_bad_segment, has_high_segment, is_too_large, has_bad_order, loads, contents, program_headers}
use Rattle.elf_file.specs.Constant.{LARGEST_FILE, HIGHEST_END}
use Rattle.elf_file.specs.Address.{is_in_memory}
use Rattle.elf_file.specs.Refusal.{header_tests, segment_tests, tag_tests, file_refusal}
use Rattle.elf_dynamic.specs.Relocation.{is_writing, is_misplaced, has_bad_place, relocations}
use Rattle.elf_dynamic.specs.Table.{has_bad_range}
use Rattle.elf_dynamic.specs.Refusal.{table_tests, symbol_tests, relocation_tests, object_tests, first_refusal}
use Rattle.elf_file.specs.declared.refusal.ObjectRefusal.TheVariants.{BadRange, BadSegment, TooLarge, SegmentOrder, RelocationPlace}
use Rattle.elf_file.specs.declared.segment.ProgramHeader.{ProgramHeader}
use Rattle.elf_file.proofs.FirstOf.{none_at, when_none, none_first}
use Rattle.elf_file.proofs.Order.{loads_rising}

or-false_left : (a b : Bool) → (a || b) ≡ false → a ≡ false
or-false_left true b h = cc
or-false_left false b h = refl

or-false_right : (a b : Bool) → (a || b) ≡ false → b ≡ false
or-false_right true b h = cc
or-false_right false b h = h

-- the headers, segments and tags of an accepted file pass their tests
pub file_refuses_none : (file : List ℕ) → first_refusal file ≡ None → file_refusal file ≡ None
unfolding first_refusal file_refusal
file_refuses_none file h =
    none_first (header_tests file ++ segment_tests file ++ tag_tests file) (table_tests file ++ symbol_tests file ++ relocation_tests file) h

segments_fine : (file : List ℕ) → first_refusal file ≡ None → (has_bad_segment file ≡ false) × (is_too_large file ≡ false) × (has_bad_order file ≡ false)
unfolding first_refusal
segments_fine file h =
    let tests = object_tests file in
    (when_none BadSegment (has_bad_segment file) (none_at tests 11 h), when_none TooLarge (is_too_large file) (none_at tests 12 h), when_none SegmentOrder (has_bad_order file) (none_at tests 13 h))

places_fine : (file : List ℕ) → first_refusal file ≡ None → has_bad_place file ≡ false
unfolding first_refusal
places_fine file h = when_none RelocationPlace (has_bad_place file) (none_at (object_tests file) 29 h)

none-step : {X : Type 0} (q bad : X → Bool) (x : X) (xs : List X) (a b : Bool) → q x ≡ a → bad x ≡ b → (b || list_any bad xs) ≡ false
    → ((k : ℕ) (d : X) → k < length (filter q xs) → (q (get_or (filter q xs) k d) ≡ true) × (bad (get_or (filter q xs) k d) ≡ false))
    → (k : ℕ) (d : X) → k < length (cond a (x ∷ filter q xs) (filter q xs))
    → (q (get_or (cond a (x ∷ filter q xs) (filter q xs)) k d) ≡ true) × (bad (get_or (cond a (x ∷ filter q xs) (filter q xs)) k d) ≡ false)
none-step q bad x xs a true e f none more k d lt = cc
none-step q bad x xs false false e f none more k d lt = more k d lt
none-step q bad x xs true false e f none more zero d lt = (e, f)
none-step q bad x xs true false e f none more (suc k) d lt = more k d (omega (arith, lt))

-- an element of a filtered list passes the filter, and fails any test that all elements of the list fail
none_in : {X : Type 0} (q bad : X → Bool) (xs : List X) → list_any bad xs ≡ false
    → (k : ℕ) (d : X) → k < length (filter q xs) → (q (get_or (filter q xs) k d) ≡ true) × (bad (get_or (filter q xs) k d) ≡ false)
none_in q bad [] none k d lt = absurd (omega (arith, lt))
none_in q bad (x ∷ xs) none k d lt =
    none-step q bad x xs (q x) (bad x) refl refl none (none_in q bad xs (or-false_right (bad x) (list_any bad xs) none)) k d lt

none_of : {X : Type 0} (bad : X → Bool) (xs : List X) → list_any bad xs ≡ false → (k : ℕ) (d : X) → k < length xs → bad (get_or xs k d) ≡ false
none_of bad [] none k d lt = absurd (omega (arith, lt))
none_of bad (x ∷ xs) none zero d lt = or-false_left (bad x) (list_any bad xs) none
none_of bad (x ∷ xs) none (suc k) d lt = none_of bad xs (or-false_right (bad x) (list_any bad xs) none) k d (omega (arith, lt))

some-step : {X : Type 0} (q : X → Bool) (x : X) (xs : List X) (a : Bool) → (a || list_any q xs) ≡ true → (list_any q xs ≡ true → 0 < length (filter q xs))
    → 0 < length (cond a (x ∷ filter q xs) (filter q xs))
some-step q x xs true some more = omega arith
some-step q x xs false some more = more some

some_in : {X : Type 0} (q : X → Bool) (xs : List X) → list_any q xs ≡ true → 0 < length (filter q xs)
some_in q [] some = cc
some_in q (x ∷ xs) some = some-step q x xs (q x) some (some_in q xs)

-- A PT_LOAD of an accepted file has no more bytes in the file than in memory, and its bytes lie in the file. Its memory ends at or below the
-- highest end.
pub record LoadFits (file : List ℕ) (h : ProgramHeader) : Type 0 where
  pub sizes : h.file_size ≤ h.memory_size
  pub within : 0 < h.file_size → h.offset + h.file_size ≤ length file
  pub low : h.address + h.memory_size ≤ HIGHEST_END

fits_by : (size : ℕ) (h : ProgramHeader) → is_load h ≡ true → is_bad_load size h ≡ false → is_too_high h ≡ false
    → (h.file_size ≤ h.memory_size) × (0 < h.file_size → h.offset + h.file_size ≤ size) × (h.address + h.memory_size ≤ HIGHEST_END)
fits_by size h load fine low = (grind (arith, nat_tests), (λ some. grind (arith, nat_tests)), grind (arith, nat_tests))

-- `LoadFits` is true of each PT_LOAD of an accepted file
pub loads_fit : (file : List ℕ) → first_refusal file ≡ None → All (LoadFits file) (loads file)
unfolding loads has_bad_load has_high_segment
loads_fit file h k d lt =
    let bad = or-false_right (not (has_load file)) (has_bad_load file) (segments_fine file h).0 in
    let high = or-false_right (nat_lt LARGEST_FILE (length file)) (has_high_segment file) (segments_fine file h).1 in
    let a = none_in is_load (is_bad_load (length file)) (program_headers file) bad k d lt in
    let b = none_in is_load is_too_high (program_headers file) high k d lt in
    let t = fits_by (length file) (get_or (filter is_load (program_headers file)) k d) a.0 a.1 b.1 in
    record { sizes = t.0; within = t.1; low = t.2 }

-- an accepted file has a PT_LOAD
pub has_loads : (file : List ℕ) → first_refusal file ≡ None → 0 < length (loads file)
unfolding loads has_load
has_loads file h =
    let none = or-false_left (not (has_load file)) (has_bad_load file) (segments_fine file h).0 in
    some_in is_load (program_headers file) (not-false (list_any is_load (program_headers file)) none)
  where
    not-false : (b : Bool) → not b ≡ false → b ≡ true
    not-false true h = refl
    not-false false h = cc

-- each PT_LOAD ends at or below the address of each later one
pub loads_rise : (file : List ℕ) → first_refusal file ≡ None → AllPairs (λ a b. a.address + a.memory_size ≤ b.address) (loads file)
loads_rise file h = loads_rising file (segments_fine file h).2

placed-by : (w p : Bool) → (w && not p) ≡ false → w ≡ true → p ≡ true
placed-by true true h e = refl
placed-by true false h e = cc
placed-by false p h e = cc

-- each relocation that writes does so in the memory of one PT_LOAD
pub places : (file : List ℕ) → first_refusal file ≡ None → All (λ r. is_writing r.kind ≡ true → is_in_memory file r.offset 8 ≡ true) (relocations file)
unfolding has_bad_place
places file h k d lt writing =
    let r = get_or (relocations file) k d in
    placed-by (is_writing r.kind) (is_in_memory file r.offset 8) (none_of (is_misplaced file) (relocations file) (places_fine file h) k d lt) writing

length-part : (at n : ℕ) (bytes : List ℕ) → (0 < n → at + n ≤ length bytes) → length (take n (drop at bytes)) ≡ n
length-part at zero bytes h = refl
length-part at (suc n) bytes h = let k = h (omega arith) in omega (arith, length-take (suc n) (drop at bytes), length-drop at bytes, k)

-- the contents of each PT_LOAD have p_filesz bytes
pub contents_length : (file : List ℕ) → first_refusal file ≡ None → All (λ h. length (contents file h) ≡ h.file_size) (loads file)
contents_length file h k d lt =
    let fits = loads_fit file h k d lt in
    length-part (get_or (loads file) k d).offset (get_or (loads file) k d).file_size file fits.within

-- `LoadFits` is true of PT_LOAD number `i` of an accepted file
pub load_fits : (file : List ℕ) (i : ℕ) (h : ProgramHeader) → first_refusal file ≡ None → slice_get (loads file) i ≡ Some h → LoadFits file h
load_fits file i h accepted at =
    let fits = loads_fit file accepted i h (slice_get_within (loads file) i h at) in
    rw (get_or_from_slice_get (loads file) i h h at) at fits

-- the contents of PT_LOAD number `i` of an accepted file have p_filesz bytes
pub contents_whole : (file : List ℕ) (i : ℕ) (h : ProgramHeader) → first_refusal file ≡ None → slice_get (loads file) i ≡ Some h → length (contents file h) ≡ h.file_size
contents_whole file i h accepted at =
    let all = contents_length file accepted i h (slice_get_within (loads file) i h at) in
    rw (get_or_from_slice_get (loads file) i h h at) at all

ranges_fine : (file : List ℕ) → first_refusal file ≡ None → has_bad_range file ≡ false
unfolding first_refusal
ranges_fine file h = when_none BadRange (has_bad_range file) (none_at (object_tests file) 21 h)

-- no table of an accepted file is unreadable
pub tables_found : (file : List ℕ) → first_refusal file ≡ None → has_bad_range file ≡ true → ⊥
tables_found file h e =
    let fine = ranges_fine file h in
    cc

-- the rules for `of_accepted`, which finds the tables again
pub ruleset accepted_parts = (file_refuses_none, tables_found)
