use Rattle.std.proofs.Common.{◌≡◌, ◌≤◌, ◌<◌, ℕ, false}
use Rattle.elf_file.specs.Segment.{program_header, is_load}
use Rattle.elf_file.proofs.headers.Headers.next_load.Given as goal

abbrev pub invariant-loop-i : goal.invariant-loop-i
invariant-loop-i l = (j : ℕ) → l.from ≤ j → j < l.i → is_load (program_header l.self j) ≡ false
