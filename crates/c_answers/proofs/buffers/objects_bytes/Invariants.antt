use Rattle.std.proofs.Common.{◌≡◌, ◌-◌, ◌^◌, length, min, take}
use Rattle.c_answers.specs.Objects.{object_names}
use Rattle.c_answers.proofs.buffers.objects_bytes.Given as goal

abbrev pub invariant-loop-object : goal.invariant-loop-object
invariant-loop-object l = l.bytes ≡ min (length (object_names (take l.object-index l.image.objects))) (2 ^ 64 - 1)
