use Rattle.std.proofs.Common.{rules}
use Rattle.roots.proofs.root_sector.spells.Goals as goal

pub returns-then-has_spelling : goal.returns-then-has_spelling
returns-then-has_spelling c = (λ yes. record { has_spelling = c.has_spelling.ensures.0 c.if-has_spelling.true; spelling = search rules }, λ spells. search rules)
