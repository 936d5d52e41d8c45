use Rattle.requests.specs.declared.reply.Reply.TheVariants.{Bound, Refused}
use Rattle.registry.proofs.Bindings.{applied}
use Rattle.registry.proofs.Keeping.{keeps_held_read}
use Rattle.registry.proofs.registry.Registry.bind.Goals as goal

pub returns-in-Err-clause-applied : goal.returns-in-Err-clause-applied
returns-in-Err-clause-applied g c s at =
    applied g.D.Disk.facts c.args.self.now c.image.new.self s c.image.ensures.read at c.args.program.now c.args.base (Refused c.in-Err.refusal) (c.in-Err.ensures.step s at)

pub returns-in-Ok-clause-applied : goal.returns-in-Ok-clause-applied
returns-in-Ok-clause-applied g c s at =
    applied g.D.Disk.facts c.args.self.now c.image.new.self s c.image.ensures.read at c.args.program.now c.args.base (Bound c.in-Ok.image) (c.in-Ok.ensures.step s at)

pub returns-in-Ok-clause-all_calls : goal.returns-in-Ok-clause-all_calls
returns-in-Ok-clause-all_calls g c s at = c.in-Ok.ensures.all_calls s at

pub returns-in-Ok-clause-held : goal.returns-in-Ok-clause-held
returns-in-Ok-clause-held g c = keeps_held_read g.D.Disk.facts c.args.self.now c.image.new.self c.image.ensures.read

pub returns-in-Ok-clause-table : goal.returns-in-Ok-clause-table
returns-in-Ok-clause-table g c = c.image.ensures.read.held

pub returns-in-Ok-clause-kept : goal.returns-in-Ok-clause-kept
returns-in-Ok-clause-kept g c = (c.image.ensures.read.root, c.image.ensures.read.entries, c.image.ensures.read.failed)

pub returns-in-Ok-clause-calls : goal.returns-in-Ok-clause-calls
returns-in-Ok-clause-calls g c = c.image.ensures.read.calls

pub returns-in-Err-clause-held : goal.returns-in-Err-clause-held
returns-in-Err-clause-held g c = keeps_held_read g.D.Disk.facts c.args.self.now c.image.new.self c.image.ensures.read

pub returns-in-Err-clause-table : goal.returns-in-Err-clause-table
returns-in-Err-clause-table g c = c.image.ensures.read.held

pub returns-in-Err-clause-kept : goal.returns-in-Err-clause-kept
returns-in-Err-clause-kept g c = (c.image.ensures.read.root, c.image.ensures.read.entries, c.image.ensures.read.failed)

pub returns-in-Err-clause-calls : goal.returns-in-Err-clause-calls
returns-in-Err-clause-calls g c = c.image.ensures.read.calls
