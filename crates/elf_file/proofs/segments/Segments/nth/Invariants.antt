use Rattle.std.proofs.Common.{◌≡◌}
use Rattle.std.specs.Prelude.{slice_get}
use Rattle.elf_file.specs.Segment.{loads}
use Rattle.elf_file.proofs.segments.Segments.nth.Given as goal

abbrev pub invariant-loop-segment : goal.invariant-loop-segment
invariant-loop-segment l = slice_get l.segment-iterator l.left ≡ slice_get (loads l.self) l.i
