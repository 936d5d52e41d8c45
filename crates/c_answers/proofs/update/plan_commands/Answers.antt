use Rattle.std.proofs.Common.{inl, inr}
use Rattle.c_answers.proofs.update.plan_commands.Goals as goal

pub returns-in-Ok-clause-answered : goal.returns-in-Ok-clause-answered
returns-in-Ok-clause-answered c = let asked = c.in-Ok.ensures.ok in inl (asked.0, c.in-Ok.made, c.in-Ok.disk, asked.1, c.tell_update.ensures.told)

pub returns-clause-answered : goal.returns-clause-answered
returns-clause-answered c = inr (c.in-Err.refusal, c.in-Err.ensures.err, c.turn_away.ensures)
