use Rattle.std.proofs.Common.{ℕ, ◌<◌, ◌≤◌, ◌-◌, get_or}
use Rattle.hash_check.proofs.lanes.shortest.Given as goal

abbrev pub invariant-loop-k : goal.invariant-loop-k
invariant-loop-k l = record {
  within : l.best < 8;
  least : (j : ℕ) → j < l.k → get_or l.ends l.best 0 - get_or l.places l.best 0 ≤ get_or l.ends j 0 - get_or l.places j 0;
}
