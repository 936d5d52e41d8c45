use Rattle.std.proofs.Common.{◌≡◌, ◌<◌, ℕ, None}
use Rattle.scope.specs.Lookup.{definition_at}
use Rattle.scope.proofs.lookup.first_by_walks.Given as goal

abbrev pub invariant-loop-place : goal.invariant-loop-place
invariant-loop-place l = (k : ℕ) → k < l.place → definition_at l.order l.name k ≡ None
