use Rattle.std.proofs.Common.{◌≡◌, ◌≤◌, length, map, take}
use Rattle.std.specs.Vec.{vec_len, vec_capacity}
use Rattle.requests.specs.Binding.{object_of}
use Rattle.registry.proofs.bound.libraries_of.Given as goal

abbrev pub invariant-loop-file : goal.invariant-loop-file
invariant-loop-file l = record {
  objects : l.libraries.items ≡ map object_of (take l.file-index l.files);
  len : vec_len l.libraries ≡ l.file-index;
  room : length l.files ≤ vec_capacity l.libraries;
}
