use Rattle.std.proofs.Common.{◌≡◌, ◌<◌, length, Some}
use Rattle.hash_check.specs.inside.Places.{place_at}
use Rattle.hash_check.proofs.Climbing.{Climbs}
use Rattle.hash_check.proofs.meeting.at_depth.Given as goal

abbrev pub invariant-loop-place : goal.invariant-loop-place
invariant-loop-place l = record {
  within : l.at < length l.chains;
  place : place_at l.places l.at ≡ Some l.place;
  climbs : Climbs l.chains l.from l.depth l.at;
}

abbrev pub decreases-loop-place : goal.decreases-loop-place
decreases-loop-place l = l.place.depth
