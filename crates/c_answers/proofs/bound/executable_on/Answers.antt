use Rattle.std.proofs.Common.{inl, inr}
use Rattle.byte_registry.specs.Plans.{synced_plan}
use Rattle.c_answers.proofs.bound.executable_on.Goals as goal

pub returns-in-Ok-clause-answered : goal.returns-in-Ok-clause-answered
returns-in-Ok-clause-answered c =
    let asked = c.in-Ok.ensures.ok in
    inl (asked.0, c.in-Ok.reply, synced_plan c.in-Ok.field-0-1, asked.1, c.tell_bound.ensures.told)

pub returns-clause-answered : goal.returns-clause-answered
returns-clause-answered c = inr (c.in-Err.refusal, c.in-Err.ensures.err, c.turn_away.ensures)
