use Rattle.std.proofs.Common.{◌≡◌, ◌≤◌, ◌<◌, ℕ, true, false}
use Rattle.elf_file.specs.Segment.{program_header, is_load}
use Rattle.elf_file.specs.Address.{is_in_memory_part}
use Rattle.elf_file.proofs.indexed_segments.IndexedSegments.load_at.Given as goal

abbrev pub invariant-loop-j : goal.invariant-loop-j
invariant-loop-j l = (j : ℕ) → l.first ≤ j → j < l.j → is_load (program_header l.self j) ≡ true → is_in_memory_part l.address l.size (program_header l.self j) ≡ false
