use Rattle.std.proofs.Common.{◌≡◌, ◌-◌, ◌^◌, length, min, take}
use Rattle.c_answers.specs.Buffers.{segment_bytes}
use Rattle.c_answers.proofs.buffers.segments_bytes.Given as goal

abbrev pub invariant-loop-segment : goal.invariant-loop-segment
invariant-loop-segment l = l.bytes ≡ min (length (segment_bytes (take l.segment-index l.image.segments))) (2 ^ 64 - 1)
