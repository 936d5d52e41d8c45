use Rattle.std.proofs.Common.{◌≢◌, ◌<◌, length}
use Rattle.hash_check.specs.Walk.{Meets}
use Rattle.hash_check.specs.inside.Places.{Known}
use Rattle.hash_check.proofs.Joining.{steps_left}
use Rattle.hash_check.proofs.joint.joint_of_two.Given as goal

abbrev pub invariant-loop-at : goal.invariant-loop-at
invariant-loop-at l = record {
  within : l.at < length l.chains;
  known : Known l.places l.at;
  met : l.at ≢ 0 → Meets l.chains l.from l.at;
}

abbrev pub decreases-loop-at : goal.decreases-loop-at
decreases-loop-at l = steps_left l.places l.at
