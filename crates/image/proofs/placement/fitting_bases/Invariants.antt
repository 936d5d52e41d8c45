use Rattle.std.proofs.Common.{◌≡◌, ◌≤◌, ◌++◌, drop, length}
use Rattle.std.specs.Vec.{vec_len, vec_capacity}
use Rattle.image.specs.Constant.{MEMORY_LIMIT}
use Rattle.image.specs.Placement.{place, place_after, lacks_room}
use Rattle.image.proofs.Bases.{bases_of}
use Rattle.image.proofs.placement.fitting_bases.Given as goal

abbrev pub invariant-loop-i : goal.invariant-loop-i
invariant-loop-i l = record {
  low : l.end ≤ MEMORY_LIMIT;
  len : vec_len l.bases ≡ l.i;
  space : length l.order ≤ vec_capacity l.bases;
  bases : bases_of (place l.base l.order) ≡ l.bases.items ++ bases_of (place_after l.end (drop l.i l.order));
  room : lacks_room (place l.base l.order) ≡ lacks_room (place_after l.end (drop l.i l.order));
}
