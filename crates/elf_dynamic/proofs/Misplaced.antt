-- Relocations that write bytes that don't lie in the memory of one PT_LOAD.
use Rattle.std.proofs.Common.{◌≡◌, ℕ, ◌<◌, true, false, List, length, arith, ◌∙◌, ap}
use Rattle.std.specs.List.{list_any}
use Rattle.std.proofs.lemmas.Bool.Decides.{nat_tests}
use Rattle.std.proofs.lemmas.List.Folds.{list_any_at, list_any_none}
use Rattle.std.proofs.lemmas.Option.{get_or_from_slice_get, slice_get_within}
use Rattle.elf_file.specs.Segment.{loads}
use Rattle.elf_file.specs.Address.{is_in_memory_part, is_in_memory, IsLoadOf}
use Rattle.elf_file.specs.declared.segment.ProgramHeader.{ProgramHeader}
use Rattle.elf_dynamic.specs.Relocation.{is_writing, is_misplaced, nth_relocation, relocations_in}
use Rattle.elf_dynamic.specs.declared.relocation.Relocation.{Relocation}
use Rattle.elf_dynamic.proofs.TableEntries.{length_relocations_in, get_or_relocations_in}

-- bytes in the memory part of a PT_LOAD of the file lie in the file's memory
pub in_memory_by : (file : List ℕ) (address size : ℕ) (h : ProgramHeader) → IsLoadOf file h → is_in_memory_part address size h ≡ true → is_in_memory file address size ≡ true
unfolding is_in_memory
in_memory_by file address size h at is =
    list_any_at (is_in_memory_part address size) (loads file) at.0 h (slice_get_within (loads file) at.0 h at.1)
    (ap (is_in_memory_part address size) (get_or_from_slice_get (loads file) at.0 h h at.1) ∙ is)

-- a relocation that writes nothing isn't misplaced
pub fine_by_type : (file : List ℕ) (r : Relocation) → is_writing r.kind ≡ false → is_misplaced file r ≡ false
fine_by_type file r is = grind (arith, nat_tests)

-- a relocation that writes into memory isn't misplaced
pub fine_by_place : (file : List ℕ) (r : Relocation) → is_in_memory file r.offset 8 ≡ true → is_misplaced file r ≡ false
fine_by_place file r is = grind (arith, nat_tests)

-- a relocation that writes bytes outside of memory is misplaced
pub misplaced_by : (file : List ℕ) (r : Relocation) → is_writing r.kind ≡ true → is_in_memory file r.offset 8 ≡ false → is_misplaced file r ≡ true
misplaced_by file r writing none = grind (arith, nat_tests)

-- if relocation number `i` of a table is misplaced, the table has a misplaced relocation
pub some_misplaced : (file table : List ℕ) (i : ℕ) → i < length (relocations_in table) → is_misplaced file (nth_relocation table i) ≡ true
    → list_any (is_misplaced file) (relocations_in table) ≡ true
some_misplaced file table i lt is =
    let d : Relocation = nth_relocation table i in
    list_any_at (is_misplaced file) (relocations_in table) i d lt
    (ap (is_misplaced file) (get_or_relocations_in table i d (omega (arith, length_relocations_in table, lt))) ∙ is)

-- if no relocation of a table is misplaced, by its number, the table has no misplaced relocation
pub none_misplaced : (file table : List ℕ) → ((k : ℕ) → k < length (relocations_in table) → is_misplaced file (nth_relocation table k) ≡ false)
    → list_any (is_misplaced file) (relocations_in table) ≡ false
none_misplaced file table none =
    list_any_none (is_misplaced file) (relocations_in table) (λ k d lt.
    ap (is_misplaced file) (get_or_relocations_in table k d (omega (arith, length_relocations_in table, lt))) ∙ none k lt)

-- the rules for `is_misplaced`
pub ruleset of_one = (fine_by_type, misplaced_by)

-- the rules for `has_misplaced_in`
pub ruleset of_a_table = (length_relocations_in, some_misplaced, none_misplaced)
