-- Facts about a PT_LOAD that was found by an address.
use Rattle.std.proofs.Common.{◌≡◌, ◌≢◌, Option, ℕ, ◌<◌, ◌≤◌, ◌+◌, ◌-◌, Bool, true, false, cond, List, [], ◌∷◌, length, arith, refl, ◌∙◌, sym, ap, Some, filter, nat_lt}
use Rattle.std.specs.List.{list_any, find}
use Rattle.std.specs.Prelude.{◌||◌}
use Rattle.std.proofs.lemmas.Bool.Decides.{nat_tests}
use Rattle.elf_file.specs.Segment.{is_load, is_bad_load, has_bad_load, loads, program_headers, is_too_large, has_high_segment, is_too_high}
use Rattle.elf_file.specs.Constant.{LARGEST_FILE, HIGHEST_END}
use Rattle.elf_file.specs.Address.{is_in_file_part, find_file_part}
use Rattle.elf_file.specs.ObjectAddresses.{has_file_bytes}
use Rattle.elf_file.specs.declared.segment.ProgramHeader.{ProgramHeader}

abbrev Found : {X : Type 0} → (X → Bool) → (X → Bool) → (X → Bool) → X → Type 0
Found p q bad d = (q d ≡ true) × (p d ≡ true) × (bad d ≡ false)

found-step : {X : Type 0} (p q bad : X → Bool) (d x : X) (xs : List X) (a b c : Bool)
    → q x ≡ a → p x ≡ b → bad x ≡ c
    → (list_any bad xs ≡ false → find p (filter q xs) ≡ Some d → Found p q bad d)
    → (c || list_any bad xs) ≡ false → find p (cond a (x ∷ filter q xs) (filter q xs)) ≡ Some d
    → Found p q bad d
found-step p q bad d x xs a b true e f g more none found = cc
found-step p q bad d x xs false b false e f g more none found = more none found
found-step p q bad d x xs true true false e f g more none found =
    let h : cond (p x) (Some x) (find p (filter q xs)) ≡ Some d = found in
    let k : x ≡ d = let j = rw f at h in cc in
    (ap q (sym k) ∙ e, ap p (sym k) ∙ f, ap bad (sym k) ∙ g)
found-step p q bad d x xs true false false e f g more none found =
    let h : cond (p x) (Some x) (find p (filter q xs)) ≡ Some d = found in
    more none (rw f at h)

-- the element that a search in a filtered list finds passes both tests, and fails any test that all
-- elements of the list fail
found_in : {X : Type 0} (p q bad : X → Bool) (d : X) (xs : List X) → list_any bad xs ≡ false → find p (filter q xs) ≡ Some d → Found p q bad d
found_in p q bad d [] none found = cc
found_in p q bad d (x ∷ xs) none found = found-step p q bad d x xs (q x) (p x) (bad x) refl refl refl (found_in p q bad d xs) none found

-- an accepted file isn't longer than the maximum length
pub short : (file : List ℕ) → is_too_large file ≡ false → length file ≤ LARGEST_FILE
short file fine = short-by (length file) (has_high_segment file) fine
  where
    short-by : (n : ℕ) (b : Bool) → (nat_lt LARGEST_FILE n || b) ≡ false → n ≤ LARGEST_FILE
    short-by n b fine = grind (arith, nat_tests)

pub record Spans (file : List ℕ) (address size : ℕ) (h : ProgramHeader) : Type 0 where
  pub from : h.address ≤ address
  pub to : address + size ≤ h.address + h.file_size
  pub within : h.offset + h.file_size ≤ length file

spans_by : (size address need : ℕ) (h : ProgramHeader) → 0 < need → is_load h ≡ true → is_in_file_part address need h ≡ true → is_bad_load size h ≡ false
    → (h.address ≤ address) × (address + need ≤ h.address + h.file_size) × (h.offset + h.file_size ≤ size)
spans_by size address need h some load spans fine = grind (arith, nat_tests)

pub span_fits : (file : List ℕ) (address size : ℕ) (h : ProgramHeader) → 0 < size → has_bad_load file ≡ false → find_file_part file address size ≡ Some h → Spans file address size h
unfolding find_file_part loads has_bad_load
span_fits file address size h some fine found =
    let f = found_in (is_in_file_part address size) is_load (is_bad_load (length file)) h (program_headers file) fine found in
    let t = spans_by (length file) address size h some f.0 f.1 f.2 in
    record { from = t.0; to = t.1; within = t.2 }

-- `Spans` is true of a PT_LOAD that a search of the file found by an address
pub found_fits : (file same : List ℕ) (address size : ℕ) (r : Option ProgramHeader) (h : ProgramHeader) → same ≡ file → r ≡ find_file_part same address size → r ≡ Some h
    → size ≢ 0 → has_bad_load file ≡ false → Spans file address size h
found_fits file same address size r h e found is some fine =
    span_fits file address size h (omega (arith, some)) fine (ap (λ f. find_file_part f address size) (sym e) ∙ sym found ∙ is)

-- the PT_LOAD begins in the file at or before `offset`, and loads the byte at `offset` at or below HIGHEST_END
pub record HasBytes (offset : ℕ) (h : ProgramHeader) : Type 0 where
  pub from : h.offset ≤ offset
  pub within : h.address + (offset - h.offset) ≤ HIGHEST_END

bytes_by : (length offset size : ℕ) (h : ProgramHeader) → is_load h ≡ true → has_file_bytes offset size h ≡ true → is_bad_load length h ≡ false → is_too_high h ≡ false
    → (h.offset ≤ offset) × (offset + size ≤ h.offset + h.file_size) × (h.file_size ≤ h.memory_size) × (h.address + h.memory_size ≤ HIGHEST_END)
bytes_by length offset size h load has fine low = grind (arith, nat_tests)

low_segments : (file : List ℕ) → is_too_large file ≡ false → has_high_segment file ≡ false
low_segments file fine = low-by (nat_lt LARGEST_FILE (length file)) (has_high_segment file) fine
  where
    low-by : (a b : Bool) → (a || b) ≡ false → b ≡ false
    low-by false b fine = fine
    low-by true b fine = cc

has_bytes : (file : List ℕ) (offset size : ℕ) (h : ProgramHeader) → has_bad_load file ≡ false → has_high_segment file ≡ false
    → find (has_file_bytes offset size) (loads file) ≡ Some h → HasBytes offset h
unfolding loads has_bad_load has_high_segment
has_bytes file offset size h fine low found =
    let f = found_in (has_file_bytes offset size) is_load (is_bad_load (length file)) h (program_headers file) fine found in
    let g = found_in (has_file_bytes offset size) is_load is_too_high h (program_headers file) low found in
    let t = bytes_by (length file) offset size h f.0 f.1 f.2 g.2 in
    record { from = t.0; within = omega (arith, t.0, t.1, t.2, t.3) }

-- `HasBytes` is true of a PT_LOAD that a search of the file found by an offset
pub found_bytes : (file same : List ℕ) (offset size : ℕ) (r : Option ProgramHeader) (h : ProgramHeader) → same ≡ file
    → r ≡ find (has_file_bytes offset size) (loads same) → r ≡ Some h → has_bad_load file ≡ false → is_too_large file ≡ false → HasBytes offset h
found_bytes file same offset size r h e found is fine small =
    has_bytes file offset size h fine (low_segments file small) (ap (λ f. find (has_file_bytes offset size) (loads f)) (sym e) ∙ sym found ∙ is)
