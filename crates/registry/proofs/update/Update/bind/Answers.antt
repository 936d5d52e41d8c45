use Rattle.requests.specs.declared.reply.Reply.TheVariants.{Bound, Refused}
use Rattle.registry.proofs.DraftBinds.{draft_bound}
use Rattle.registry.proofs.update.Update.bind.Goals as goal

pub returns-in-Err-clause-applied : goal.returns-in-Err-clause-applied
returns-in-Err-clause-applied g c s d at = draft_bound c.image.ensures.read at c.args.program.now c.args.base (Refused c.in-Err.refusal) (c.in-Err.ensures.step s d at)

pub returns-in-Ok-clause-applied : goal.returns-in-Ok-clause-applied
returns-in-Ok-clause-applied g c s d at = draft_bound c.image.ensures.read at c.args.program.now c.args.base (Bound c.in-Ok.image) (c.in-Ok.ensures.step s d at)

pub returns-in-Ok-clause-read : goal.returns-in-Ok-clause-read
returns-in-Ok-clause-read g c = c.image.ensures.read

pub returns-in-Err-clause-read : goal.returns-in-Err-clause-read
returns-in-Err-clause-read g c = c.image.ensures.read

pub returns-in-Err-clause-bound : goal.returns-in-Err-clause-bound
returns-in-Err-clause-bound g c s d at = record { unchanged = c.image.ensures.read.read.unchanged at.stands.honest; most_calls = c.image.ensures.calls s d at; all_calls = tt }

pub returns-in-Ok-clause-bound : goal.returns-in-Ok-clause-bound
returns-in-Ok-clause-bound g c s d at = record { unchanged = c.image.ensures.read.read.unchanged at.stands.honest; most_calls = c.image.ensures.calls s d at; all_calls = c.in-Ok.ensures.all_calls s d at }
