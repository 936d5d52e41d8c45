use Rattle.std.proofs.Common.{cond, sym, ap, ◌∙◌}
use Rattle.scripts.specs.declared.reading.Got.TheVariants.{Cut, End}
use Rattle.scripts.proofs.reading.last_part.Goals as goal

pub returns-then-is_empty : goal.returns-then-is_empty
returns-then-is_empty c = ap (λ b. cond b End Cut) (sym (sym c.is_empty.ensures ∙ c.if-is_empty.true))

pub returns-else-is_empty : goal.returns-else-is_empty
returns-else-is_empty c = ap (λ b. cond b End Cut) (sym (sym c.is_empty.ensures ∙ c.if-is_empty.false))
