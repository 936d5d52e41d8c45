use Rattle.std.proofs.Common.{◌≡◌, ℕ, ◌<◌, [], length, get_or}
use Rattle.hash_check.specs.inside.Places.{Known, Sound}
use Rattle.hash_check.proofs.table.follow_all.Given as goal

abbrev pub invariant-loop-i : goal.invariant-loop-i
invariant-loop-i l = record {
  size : length l.places.items ≡ length l.chains;
  zero : Known l.places.items 0;
  sound : Sound l.chains l.places.items;
  path : l.path.items ≡ [];
  known : (k : ℕ) → k < l.i → Known l.places.items (get_or l.buckets k 0);
}
