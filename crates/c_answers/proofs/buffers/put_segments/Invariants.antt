use Rattle.std.proofs.Common.{◌≡◌, length, take}
use Rattle.c_answers.specs.Buffers.{segment_bytes, places_of}
use Rattle.c_answers.proofs.buffers.put_segments.Given as goal

abbrev pub invariant-loop-i : goal.invariant-loop-i
invariant-loop-i l = record {
  at : l.at ≡ length (segment_bytes (take l.i l.image.segments));
  bytes : take l.at l.bytes ≡ segment_bytes (take l.i l.image.segments);
  places : take l.i l.places ≡ places_of 0 (take l.i l.image.segments);
}
