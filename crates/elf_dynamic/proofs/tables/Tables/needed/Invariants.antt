use Rattle.std.proofs.Common.{◌≡◌}
use Rattle.std.specs.Prelude.{slice_get}
use Rattle.elf_file.specs.Dynamic.{needed_offsets}
use Rattle.elf_dynamic.proofs.tables.Tables.needed.Given as goal

abbrev pub invariant-loop-offset : goal.invariant-loop-offset
invariant-loop-offset l = slice_get l.offset-iterator l.left ≡ slice_get (needed_offsets l.self) l.i
