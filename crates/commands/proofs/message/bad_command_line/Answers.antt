use Rattle.commands.proofs.message.bad_command_line.Goals as goal

pub returns-clause-said : goal.returns-clause-said
returns-clause-said g c = c.say.ensures
