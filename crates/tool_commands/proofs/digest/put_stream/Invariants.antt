use Rattle.std.proofs.Common.{List, take}
use Rattle.states.specs.State.{Library}
use Rattle.text_output.specs.Sends.{Sends}
use Rattle.tool_commands.specs.inside.Listed.{Lists}
use Rattle.tool_commands.specs.inside.Sums.{stream_text}
use Rattle.tool_commands.proofs.digest.put_stream.Given as goal

abbrev pub invariant-loop-position : goal.invariant-loop-position
invariant-loop-position g l =
    (libraries : List Library) → Lists g.D.Disk.facts l.store libraries → Sends (g.W.Write.contents l.fn.out) l.fn.line (g.W.Write.contents l.out) l.line
    (stream_text l.stream (take l.position libraries) (take l.position l.digests))
