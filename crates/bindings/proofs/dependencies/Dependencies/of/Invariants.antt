use Rattle.std.proofs.Common.{map, take}
use Rattle.scope.specs.LoadOrder.{names_of}
use Rattle.bindings.specs.inside.Names.{AreNames}
use Rattle.bindings.proofs.dependencies.Dependencies.of.Given as goal

abbrev pub invariant-loop-library : goal.invariant-loop-library
invariant-loop-library l = AreNames (take l.library-index (names_of l.libraries)) (map (λ n. n.now) l.names.keys)
