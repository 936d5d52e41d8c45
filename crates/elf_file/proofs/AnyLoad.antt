-- Whether some program header is a PT_LOAD that passes a test, decided by looking only at the PT_LOADs.
use Rattle.std.proofs.Common.{◌≡◌, ℕ, ◌+◌, ◌≤◌, ◌<◌, Bool, true, false, cond, List, [], ◌∷◌, refl, ap, sym, ◌∙◌, filter, arith, inl, inr, nat_lt}
use Rattle.std.specs.Prelude.{◌||◌}
use Rattle.std.specs.List.{list_any}
use Rattle.std.proofs.lemmas.Bool.{cases_lt, lt-ltb, le-ltb}
use Rattle.elf_file.specs.Header.{header_count}
use Rattle.elf_file.specs.Segment.{is_load, has_load, loads, program_header, program_headers}
use Rattle.elf_file.specs.inside.Index.{loads_from}
use Rattle.elf_file.specs.declared.segment.ProgramHeader.{ProgramHeader}
use Rattle.elf_file.proofs.LoadNumbers.{loads_from_start, loads_from_skip, loads_from_load, loads_from_end}

any-step : (test : ProgramHeader → Bool) (h : ProgramHeader) (left : List ProgramHeader) (all is : Bool)
    → (is ≡ false → test h ≡ false) → list_any test left ≡ all → list_any test (cond is (h ∷ left) left) ≡ (test h || all)
any-step test h left all true only rest = ap (λ b. test h || b) rest
any-step test h left all false only rest = rest ∙ sym (ap (λ b. b || all) (only refl))

-- if only PT_LOADs pass a test, some program header passes it exactly if some PT_LOAD does
pub any_load : (test : ProgramHeader → Bool) → ((h : ProgramHeader) → is_load h ≡ false → test h ≡ false) → (hs : List ProgramHeader)
    → list_any test (filter is_load hs) ≡ list_any test hs
any_load test only [] = refl
any_load test only (h ∷ hs) = any-step test h (filter is_load hs) (list_any test hs) (is_load h) (only h) (any_load test only hs)

loaded : (file : List ℕ) (b : Bool) → list_any is_load (loads_from file 0) ≡ b → b ≡ has_load file
unfolding has_load loads
loaded file b is = sym is ∙ ap (list_any is_load) (loads_from_start file) ∙ any_load is_load (λ h no. no) (program_headers file)

-- a search that stops at the first PT_LOAD, or at the end of the program headers, finds whether there is
-- a PT_LOAD
pub has_load_by : (file : List ℕ) (k : ℕ) → k ≤ header_count file → ((j : ℕ) → 0 ≤ j → j < k → is_load (program_header file j) ≡ false)
    → (k < header_count file → is_load (program_header file k) ≡ true) → nat_lt k (header_count file) ≡ has_load file
has_load_by file k within none here =
    let skip : loads_from file 0 ≡ loads_from file k = loads_from_skip file 0 k (omega arith) within none in
    elim (cases_lt k (header_count file)) [
      | inl lt ↦
          let is = here lt in
          lt-ltb k (header_count file) lt ∙ loaded file true (ap (list_any is_load) (skip ∙ loads_from_load file k lt is) ∙ ap (λ b. b || list_any is_load (loads_from file (k + 1))) is)
      | inr ge ↦
          le-ltb k (header_count file) ge ∙ loaded file false (ap (list_any is_load) (skip ∙ loads_from_end file k (omega arith)))
    ]
