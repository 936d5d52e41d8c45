use Rattle.std.proofs.Common.{◌≡◌, ◌+◌, ◌-◌, ◌≤◌}
use Rattle.text_output.specs.Sends.{Sends}
use Rattle.text_output.proofs.ZeroLines.{zero_lines}
use Rattle.text_output.proofs.buffer.OutputBuffer.put_zero_lines.Given as goal

abbrev pub invariant-loop-left : goal.invariant-loop-left
invariant-loop-left g l = record {
  left : l.left ≤ l.count;
  waits : l.self.waiting ≡ zero_lines l.full;
  sends : Sends (g.W.Write.contents l.fn.out) l.fn.self (g.W.Write.contents l.out) l.self (zero_lines (l.count - l.left));
}

abbrev pub decreases-loop-left : goal.decreases-loop-left
decreases-loop-left g l = l.left + 1 - l.full
