use Rattle.std.proofs.Common.{◌≡◌, ◌≤◌, None}
use Rattle.std.proofs.Math.ListN.{replicate}
use Rattle.std.specs.Vec.{vec_len, vec_capacity}
use Rattle.scope.proofs.definitions.no_definitions.Given as goal

abbrev pub invariant-loop-number : goal.invariant-loop-number
invariant-loop-number l = (l.kept.items ≡ replicate l.number None) × (vec_len l.kept ≡ l.number) × (l.count ≤ vec_capacity l.kept)
