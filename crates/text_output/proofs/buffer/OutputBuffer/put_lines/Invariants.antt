use Rattle.text_output.specs.Sends.{Sends}
use Rattle.text_output.specs.Hexadecimal.{first_lines}
use Rattle.text_output.proofs.buffer.OutputBuffer.put_lines.Given as goal

abbrev pub invariant-loop-bytes : goal.invariant-loop-bytes
invariant-loop-bytes g l =
    Sends (g.W.Write.contents l.fn.out) l.fn.self (g.W.Write.contents l.out) l.self
    (first_lines l.bytes l.bytes-index)
