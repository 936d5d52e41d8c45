use Rattle.plain_registry.proofs.Distinct.{distinct_numbers}
use Rattle.plain_registry.proofs.numbers.are_distinct.Goals as goal

pub returns : goal.returns
returns c = λ e. distinct_numbers c.args.numbers.now (c.differ.ensures.0 e)
