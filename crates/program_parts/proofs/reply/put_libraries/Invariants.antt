use Rattle.std.proofs.Common.{take}
use Rattle.std.specs.List.{flat_map}
use Rattle.text_output.specs.Sends.{Sends}
use Rattle.program_parts.specs.Reply.{library_text}
use Rattle.program_parts.proofs.reply.put_libraries.Given as goal

abbrev pub invariant-loop-library : goal.invariant-loop-library
invariant-loop-library g l =
    Sends (g.W.Write.contents l.fn.out) l.fn.line (g.W.Write.contents l.out) l.line
    (flat_map library_text (take l.library-index l.libraries))
