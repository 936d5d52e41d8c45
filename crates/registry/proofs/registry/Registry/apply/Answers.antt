use Rattle.requests.specs.Request.{request_of}
use Rattle.registry.proofs.Untested.{tested}
use Rattle.registry.proofs.registry.Registry.apply.Goals as goal

pub returns-clause-applied : goal.returns-clause-applied
returns-clause-applied g c s at =
    tested g.D.Disk.facts c.args.self.now c.reply_to-reply.new.self s at (g.met.D.Disk.holds_now c.args.self.now.disk)
    (request_of c.args.command.now) c.reply_to-reply.result (c.reply_to-reply.ensures.untested s at.stored)

pub returns-clause-untested : goal.returns-clause-untested
returns-clause-untested g c s at = c.reply_to-reply.ensures.untested s at

pub returns-clause-all_calls : goal.returns-clause-all_calls
returns-clause-all_calls g c s at = c.reply_to-reply.ensures.all_calls s at

pub returns-clause-on_any_disk : goal.returns-clause-on_any_disk
returns-clause-on_any_disk g c = c.reply_to-reply.ensures.on_any_disk c.holds_are_sound.ensures c.holds_are_sound-2.ensures
