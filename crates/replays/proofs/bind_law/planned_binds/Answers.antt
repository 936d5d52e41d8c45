use Rattle.replays.proofs.Binds.{planned_objects, planned_refusal}
use Rattle.replays.proofs.bind_law.planned_binds.Goals as goal

pub returns-clause-refusal : goal.returns-clause-refusal
returns-clause-refusal c s requests program base = planned_refusal s requests program base

pub returns-clause-objects : goal.returns-clause-objects
returns-clause-objects c s requests program base = planned_objects s requests program base
