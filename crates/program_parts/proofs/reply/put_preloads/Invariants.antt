use Rattle.std.proofs.Common.{take}
use Rattle.std.specs.List.{flat_map}
use Rattle.text_output.specs.Sends.{Sends}
use Rattle.program_parts.specs.Reply.{preload_text}
use Rattle.program_parts.proofs.reply.put_preloads.Given as goal

abbrev pub invariant-loop-preload : goal.invariant-loop-preload
invariant-loop-preload g l =
    Sends (g.W.Write.contents l.fn.out) l.fn.line (g.W.Write.contents l.out) l.line
    (flat_map preload_text (take l.preload-index l.preloads))
