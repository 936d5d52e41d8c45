use Rattle.std.proofs.Common.{◌≡◌, ◌≤◌, ◌<◌, ℕ, false}
use Rattle.elf_file.specs.inside.Needed.{is_needed}
use Rattle.elf_file.proofs.needed.next_needed.Given as goal

abbrev pub invariant-loop-i : goal.invariant-loop-i
invariant-loop-i l = (j : ℕ) → l.from ≤ j → j < l.i → is_needed l.bytes j ≡ false
