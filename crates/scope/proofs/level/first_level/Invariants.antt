use Rattle.std.proofs.Common.{◌≡◌, ◌+◌, map, take, [], ◌∷◌}
use Rattle.scope.specs.inside.Growing.{grown}
use Rattle.scope.proofs.level.first_level.Given as goal

abbrev pub invariant-loop-preload : goal.invariant-loop-preload
invariant-loop-preload l = l.places ≡ record {
  limit = l.count + 1;
  places = grown (0 ∷ []) (map (λ p. p + 1) (take l.preload-index l.preloads));
}
