use Rattle.std.proofs.Common.{arith}
use Rattle.std.proofs.lemmas.Grind.{common_steps}
use Rattle.requests.proofs.words.+has_repeat.Goals as goal

pub returns-then-has_name : goal.returns-then-has_name
returns-then-has_name t c = grind (arith, common_steps)

pub returns-else-has_name : goal.returns-else-has_name
returns-else-has_name t c = grind (arith, common_steps)
