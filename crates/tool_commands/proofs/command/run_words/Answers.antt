use Rattle.std.proofs.Common.{refl}
use Rattle.tool_commands.proofs.Outcomes.{line_apart, line_silent}
use Rattle.tool_commands.proofs.command.run_words.Goals as goal

pub returns-in-Some-clause-ends : goal.returns-in-Some-clause-ends
returns-in-Some-clause-ends g c = rw (← c.in-Some.ensures) (c.run_apart.result, c.run_apart.ensures.ends, c.number.ensures)

pub returns-in-Some-clause-unread : goal.returns-in-Some-clause-unread
returns-in-Some-clause-unread g c = rw (← c.in-Some.ensures) c.run_apart.ensures.unread

pub returns-in-Some-clause-silent : goal.returns-in-Some-clause-silent
returns-in-Some-clause-silent g c = line_silent g.O.Write.contents _ _ c.number.result (returns-in-Some-clause-ends g c)

pub returns-in-Some-clause-apart : goal.returns-in-Some-clause-apart
returns-in-Some-clause-apart g c = line_apart g.O.Write.contents _ _ c.number.result (returns-in-Some-clause-ends g c)

pub returns-in-None-clause-ends : goal.returns-in-None-clause-ends
returns-in-None-clause-ends g c = rw (← c.in-None.ensures) (c.bad_words.result, (c.bad_words.ensures.status, refl, c.bad_words.ensures.said), c.number-in-None.ensures)

pub returns-in-None-clause-silent : goal.returns-in-None-clause-silent
returns-in-None-clause-silent g c = line_silent g.O.Write.contents _ _ c.number-in-None.result (returns-in-None-clause-ends g c)
