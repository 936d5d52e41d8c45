use Rattle.std.specs.List.{IsDistinct}
use Rattle.unit_tests.proofs.files.each_call.is_bound.Goals as goal

pub load_order-requires-clause-names : goal.load_order-requires-clause-names
unfolding IsDistinct
load_order-requires-clause-names c = (tt, tt)

pub load_order-requires-clause-distinct : goal.load_order-requires-clause-distinct
unfolding IsDistinct
load_order-requires-clause-distinct c = (tt, tt)

pub bind_program-requires-clause-names : goal.bind_program-requires-clause-names
unfolding IsDistinct
bind_program-requires-clause-names c = (tt, tt)

pub bind_program-requires-clause-distinct : goal.bind_program-requires-clause-distinct
unfolding IsDistinct
bind_program-requires-clause-distinct c = tt
