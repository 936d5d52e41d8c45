-- Laws about a file in memory, at any moment.
use Rattle.std.specs.Prelude.{◌≡◌, length, slice_index_or}
use Rattle.std.proofs.Common.{sym, subst, arith}
use Rattle.std.proofs.lemmas.List.{get_or_past}
use Rattle.sector_disk.specs.Disk.{sector, MayLeave}
use Rattle.sector_disk.specs.Memory.{memory_facts}
use Rattle.sector_disk.specs.inside.MemoryLaws.{memory_holds, memory_whole}
use Rattle.file_disk.specs.declared.memory_file.MemoryFile.{MemoryFile}
use Rattle.file_disk.specs.SectorFile.{HoldsWhatIsRead, HasWholeContents}
use Rattle.file_disk.specs.MemoryFile.{memory_file_facts}

-- the medium at the present moment is the file's present medium
abbrev present : (file : MemoryFile) → slice_index_or file.past.items (length file.past.items) file.medium ≡ file.medium
present file = get_or_past file.past.items (length file.past.items) file.medium (omega arith)

-- Reads of a file in memory return contents that are on the medium or may reach it.
pub file_holds : (file : MemoryFile) → HoldsWhatIsRead (memory_file_facts file)
file_holds file =
    let holds = memory_holds file.medium in
    record {
      size = holds.size;
      each = λ k lt. (lt, subst (λ m. MayLeave (memory_facts m) k (sector (memory_facts file.medium).now k)) (sym (present file)) (holds.each k lt));
    }

-- The medium of a file in memory has only whole sectors.
pub file_whole : (file : MemoryFile) → HasWholeContents (memory_file_facts file)
file_whole file = record {
  each = λ k c has.
      let whole = memory_whole file.medium in
      whole.left (memory_facts file.medium).time k c (omega arith) has.0
      (subst (λ m. MayLeave (memory_facts m) k c) (present file) has.1);
}
