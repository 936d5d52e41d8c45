use Rattle.std.proofs.Common.{length, take}
use Rattle.elf_dynamic.specs.Relocation.{relocations}
use Rattle.elf_dynamic.specs.Symbol.{symbols}
use Rattle.bindings.specs.inside.Flags.{AreFlags}
use Rattle.bindings.proofs.named.named_flags.Given as goal

abbrev pub invariant-loop-i : goal.invariant-loop-i
invariant-loop-i l = AreFlags (length (symbols l.object)) (take l.i (relocations l.object)) l.flags.items
