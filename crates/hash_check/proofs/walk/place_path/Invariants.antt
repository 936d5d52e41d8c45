use Rattle.std.proofs.Common.{◌≡◌, length}
use Rattle.hash_check.specs.Walk.{walk}
use Rattle.hash_check.specs.inside.Places.{IsPath, Sound, Keeps, Known}
use Rattle.hash_check.proofs.walk.place_path.Given as goal

abbrev pub invariant-loop-i : goal.invariant-loop-i
invariant-loop-i l = record {
  size : length l.places ≡ length l.chains;
  path : IsPath l.chains l.from l.path.items;
  known : Known l.places (walk l.chains l.from (length l.path.items));
  sound : Sound l.chains l.places;
  keeps : Keeps l.fn.places l.places;
}

abbrev pub decreases-loop-i : goal.decreases-loop-i
decreases-loop-i l = length l.path.items
