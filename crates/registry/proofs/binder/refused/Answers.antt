use Rattle.std.proofs.Common.{sym, ap}
use Rattle.registry.specs.inside.Stepping.{refused_step}
use Rattle.registry.proofs.binder.refused.Goals as goal

pub returns-in-OutOfMemory-clause-value : goal.returns-in-OutOfMemory-clause-value
returns-in-OutOfMemory-clause-value c = ap refused_step (sym c.in-OutOfMemory.is)

pub returns-in-OutOfMemory-clause-last : goal.returns-in-OutOfMemory-clause-last
returns-in-OutOfMemory-clause-last c = tt
