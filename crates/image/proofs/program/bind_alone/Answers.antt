use Rattle.std.specs.List.{IsDistinct}
use Rattle.image.proofs.program.bind_alone.Goals as goal

pub bind_program-requires-clause-names : goal.bind_program-requires-clause-names
unfolding IsDistinct
bind_program-requires-clause-names c = tt

pub bind_program-requires-clause-distinct : goal.bind_program-requires-clause-distinct
unfolding IsDistinct
bind_program-requires-clause-distinct c = tt
