use Rattle.std.proofs.Common.{◌≡◌, ◌≤◌, length, map, take}
use Rattle.std.specs.List.{All}
use Rattle.std.specs.Vec.{vec_len, vec_capacity}
use Rattle.scope.specs.Objects.{IsTaken}
use Rattle.scope.specs.LoadOrder.{available, object_at}
use Rattle.scope.proofs.loading.objects_at.Given as goal

abbrev pub invariant-loop-place : goal.invariant-loop-place
invariant-loop-place l = record {
  objects : l.objects.items ≡ map (object_at (available l.program l.libraries)) (take l.place-index l.places);
  len : vec_len l.objects ≡ l.place-index;
  room : length l.places ≤ vec_capacity l.objects;
  taken : All (λ o. IsTaken o.file) l.objects.items;
}
