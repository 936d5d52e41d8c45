use Rattle.std.proofs.Common.{inl, inr}
use Rattle.byte_registry.specs.Plans.{synced_plan}
use Rattle.c_answers.proofs.bind.bind_on.Goals as goal

pub returns-in-Ok : goal.returns-in-Ok
returns-in-Ok c = let asked = c.in-Ok.ensures.ok in inl (asked.0, c.in-Ok.reply, synced_plan c.in-Ok.field-0-1, asked.1, c.tell_bind.ensures)

pub returns : goal.returns
returns c = inr (c.in-Err.refusal, c.in-Err.ensures.err, c.turn_away.ensures)
