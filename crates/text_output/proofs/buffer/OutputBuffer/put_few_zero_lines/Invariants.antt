use Rattle.std.proofs.Common.{◌≡◌}
use Rattle.text_output.specs.Sends.{Sends, HasRoom, with_text}
use Rattle.text_output.proofs.ZeroLines.{zero_lines}
use Rattle.text_output.proofs.buffer.OutputBuffer.put_few_zero_lines.Given as goal

abbrev pub invariant-loop : goal.invariant-loop
invariant-loop g l = record {
  sends : Sends (g.W.Write.contents l.fn.out) l.fn.self (g.W.Write.contents l.out) l.self (zero_lines l.counter);
  fits : HasRoom g.row.SIZE l.fn.self (zero_lines l.count)
      → (l.out ≡ l.fn.out) × (l.self ≡ with_text l.fn.self (zero_lines l.counter));
}
