use Rattle.std.proofs.Common.{◌≢◌, ◌<◌, ℕ, length, get_or}
use Rattle.hash_check.specs.Walk.{Meets}
use Rattle.hash_check.specs.inside.Places.{Known}
use Rattle.hash_check.proofs.joint.joint_of_all.Given as goal

abbrev pub invariant-loop-i : goal.invariant-loop-i
invariant-loop-i l = record {
  within : l.joint < length l.chains;
  known : Known l.places l.joint;
  met : l.joint ≢ 0 → (k : ℕ) → k < l.i → Meets l.chains (get_or l.buckets k 0) l.joint;
}
