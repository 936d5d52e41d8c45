use Rattle.std.proofs.Common.{◌≡◌, ◌+◌, ◌≤◌, length, take}
use Rattle.std.specs.List.{All}
use Rattle.std.specs.Vec.{vec_len, vec_capacity}
use Rattle.scope.specs.Objects.{IsTaken}
use Rattle.scope.specs.LoadOrder.{available}
use Rattle.scope.proofs.order.Order.of.Given as goal

abbrev pub invariant-loop-library : goal.invariant-loop-library
invariant-loop-library l = record {
  objects : l.objects.items ≡ available l.program (take l.library-index l.libraries);
  len : vec_len l.objects ≡ l.library-index + 1;
  room : length l.libraries + 1 ≤ vec_capacity l.objects;
  taken : All (λ o. IsTaken o.file) l.objects.items;
}
