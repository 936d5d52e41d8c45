use Rattle.std.proofs.Common.{◌≡◌, ◌<◌, ◌≤◌, ◌-◌, length}
use Rattle.hash_check.specs.Walk.{walk}
use Rattle.hash_check.specs.inside.Places.{IsPath}
use Rattle.hash_check.proofs.walk.climb.Given as goal

abbrev pub invariant-loop-path : goal.invariant-loop-path
invariant-loop-path l = record {
  at : l.at ≡ walk l.chains l.from (length l.path.items);
  within : l.at < length l.chains;
  room : length l.path.items ≤ length l.chains;
  path : IsPath l.chains l.from l.path.items;
}

abbrev pub decreases-loop-path : goal.decreases-loop-path
decreases-loop-path l = length l.chains - length l.path.items
