use Rattle.std.proofs.Common.{◌≡◌, ◌≤◌, ◌+◌, ◌-◌, length, map, take, None}
use Rattle.std.specs.List.{find, flat_map}
use Rattle.scope.specs.LoadOrder.{available, names_of, needs_of, level_0, object_at, needed_by, is_missing}
use Rattle.scope.specs.inside.Reached.{Reached}
use Rattle.scope.proofs.loading.load_places.Given as goal

abbrev pub invariant-loop-i : goal.invariant-loop-i
invariant-loop-i l = record {
  limit : l.places.limit ≡ length l.libraries + 1;
  within : l.i ≤ length l.places.places;
  reached : Reached (needs_of l.program l.libraries) (length (available l.program l.libraries)) (level_0 l.preloads) l.places.places l.i;
  clear : find (is_missing (names_of l.libraries)) (flat_map needed_by (map (object_at (available l.program l.libraries)) (take l.i l.places.places))) ≡ None;
}

abbrev pub decreases-loop-i : goal.decreases-loop-i
decreases-loop-i l = length l.libraries + 1 - l.i
