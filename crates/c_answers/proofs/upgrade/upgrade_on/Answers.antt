use Rattle.std.proofs.Common.{inl, inr}
use Rattle.byte_registry.specs.Plans.{synced_plan}
use Rattle.c_answers.proofs.upgrade.upgrade_on.Goals as goal

pub returns-in-Ok-clause-answered : goal.returns-in-Ok-clause-answered
returns-in-Ok-clause-answered c = let made = c.in-Ok.ensures.ok in inl (made.0, synced_plan c.in-Ok.disk, made.1, c.put_done.ensures.planned)

pub returns-clause-answered : goal.returns-clause-answered
returns-clause-answered c = inr (c.in-Err.refusal, c.in-Err.ensures.err, c.turn_away.ensures)
