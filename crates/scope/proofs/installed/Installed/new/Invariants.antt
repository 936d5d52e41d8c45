use Rattle.std.proofs.Common.{◌≡◌, map, take}
use Rattle.scope.specs.LoadOrder.{names_of}
use Rattle.scope.proofs.installed.Installed.new.Given as goal

abbrev pub invariant-loop-library : goal.invariant-loop-library
invariant-loop-library l = map (λ n. n.now) l.names.keys ≡ take l.library-index (names_of l.libraries)
