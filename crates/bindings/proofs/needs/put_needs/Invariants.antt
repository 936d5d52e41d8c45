use Rattle.std.proofs.Common.{length, take}
use Rattle.std.specs.List.{flat_map}
use Rattle.elf_dynamic.specs.Strings.{needed}
use Rattle.text_output.specs.Sends.{Sends}
use Rattle.bindings.specs.Bindings.{needs_line}
use Rattle.bindings.proofs.needs.put_needs.Given as goal

abbrev pub invariant-loop-name : goal.invariant-loop-name
invariant-loop-name g l =
    Sends (g.W.Write.contents l.fn.out) l.fn.buffer (g.W.Write.contents l.out) l.buffer
    (flat_map needs_line (take (length l.yielded) (needed l.object)))
