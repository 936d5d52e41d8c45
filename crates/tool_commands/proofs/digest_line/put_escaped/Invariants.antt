use Rattle.std.proofs.Common.{take}
use Rattle.std.specs.List.{flat_map}
use Rattle.text_output.specs.Sends.{Sends}
use Rattle.tool_commands.specs.Digest.{escaped_byte}
use Rattle.tool_commands.proofs.digest_line.put_escaped.Given as goal

abbrev pub invariant-loop-byte : goal.invariant-loop-byte
invariant-loop-byte g l = Sends (g.W.Write.contents l.fn.out) l.fn.line (g.W.Write.contents l.out) l.line (flat_map escaped_byte (take l.byte-index l.name))
