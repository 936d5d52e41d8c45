use Rattle.scope.specs.inside.Definitions.{AreFirst}
use Rattle.scope.proofs.definitions.first_definitions.Given as goal

abbrev pub invariant-loop-at : goal.invariant-loop-at
invariant-loop-at l = AreFirst l.objects l.symbols l.at l.first.items
