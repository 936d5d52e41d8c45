use Rattle.std.proofs.Common.{◌≡◌, ◌+◌, ◌++◌, length, take}
use Rattle.c_answers.specs.Objects.{object_names, object_places}
use Rattle.c_answers.proofs.Objects.{segments_of}
use Rattle.c_answers.proofs.buffers.put_objects.Given as goal

abbrev pub invariant-loop-i : goal.invariant-loop-i
invariant-loop-i l = record {
  at : l.at ≡ l.from + length (object_names (take l.i l.image.objects));
  first : l.first_segment ≡ segments_of (take l.i l.image.objects);
  places : take l.i l.places ≡ object_places l.from 0 (take l.i l.image.objects);
  names : take l.at l.bytes ≡ take l.from l.fn.bytes ++ object_names (take l.i l.image.objects);
}
