use Rattle.std.proofs.Common.{◌≡◌, ◌-◌, ◌*◌, ◌≤◌, length, drop}
use Rattle.std.specs.Prelude.{replicate}
use Rattle.text_output.proofs.zeros.zeros_begin.Given as goal

abbrev pub invariant-loop-count : goal.invariant-loop-count
invariant-loop-count l = record {
  within : l.count ≤ length l.blocks;
  zeros : drop (64 * l.count) l.bytes ≡ replicate (length l.bytes - 64 * l.count) 0;
}

abbrev pub decreases-loop-count : goal.decreases-loop-count
decreases-loop-count l = l.count
