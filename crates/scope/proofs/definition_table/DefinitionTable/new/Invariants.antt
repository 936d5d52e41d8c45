use Rattle.std.proofs.Common.{map}
use Rattle.scope.specs.inside.Definitions.{AreFound}
use Rattle.scope.proofs.definition_table.DefinitionTable.new.Given as goal

abbrev pub invariant-loop-at : goal.invariant-loop-at
invariant-loop-at l = AreFound l.objects l.symbols.items l.at (map (λ r. r.items) l.rows.items)
