use Rattle.commands.proofs.Ending.{said_front}
use Rattle.commands.proofs.command.run_words.Goals as goal

pub returns-clause-ends : goal.returns-clause-ends
returns-clause-ends g c = (c.run_command.result, (c.run_command.ensures.ends, said_front _ _ _ _ _ _ c.run_command.ensures.said), c.number.ensures)
