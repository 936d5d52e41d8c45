use Rattle.program_parts.proofs.reply.put_command_refusal.Goals as goal

pub returns-in-AlreadyInstalled-clause-ok : goal.returns-in-AlreadyInstalled-clause-ok
returns-in-AlreadyInstalled-clause-ok g c = rw c.in-AlreadyInstalled.is c.put.ensures.ok

pub returns-in-InPreloads-clause-ok : goal.returns-in-InPreloads-clause-ok
returns-in-InPreloads-clause-ok g c = rw c.in-InPreloads.is c.put-in-InPreloads.ensures.ok

pub returns-in-TooManyPreloads-clause-ok : goal.returns-in-TooManyPreloads-clause-ok
returns-in-TooManyPreloads-clause-ok g c = rw c.in-TooManyPreloads.is c.put-in-TooManyPreloads.ensures.ok
