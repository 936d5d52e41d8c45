use Rattle.std.proofs.Common.{inl, inr}
use Rattle.byte_registry.specs.Plans.{synced_plan}
use Rattle.c_answers.proofs.format.format_on.Goals as goal

pub returns-in-Ok-clause-answered : goal.returns-in-Ok-clause-answered
returns-in-Ok-clause-answered c = inl (synced_plan c.in-Ok.disk, c.in-Ok.ensures.ok, c.put_done.ensures.planned)

pub returns-clause-answered : goal.returns-clause-answered
returns-clause-answered c = inr (c.in-Err.refusal, c.in-Err.ensures.err, c.turn_away.ensures)
