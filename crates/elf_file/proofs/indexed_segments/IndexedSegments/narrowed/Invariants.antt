use Rattle.std.proofs.Common.{◌≤◌}
use Rattle.elf_file.specs.inside.Index.{IsBlockAt}
use Rattle.elf_file.proofs.indexed_segments.IndexedSegments.narrowed.Given as goal

abbrev pub invariant-loop-step : goal.invariant-loop-step
invariant-loop-step l = record {
  most : l.step ≤ 1024;
  block : IsBlockAt l.self l.address l.low;
}

abbrev pub decreases-loop-step : goal.decreases-loop-step
decreases-loop-step l = l.step
