use Rattle.std.proofs.Common.{◌≡◌, drop}
use Rattle.executable.specs.Initializers.{memory_from}
use Rattle.executable.proofs.initializers.memory_from.Given as goal

abbrev pub invariant-loop-segment : goal.invariant-loop-segment
invariant-loop-segment l = memory_from (drop l.segment-index l.segments) l.address ≡ memory_from l.segments l.address
