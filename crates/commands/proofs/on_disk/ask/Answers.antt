use Rattle.commands.proofs.Asking.{request_replied}
use Rattle.commands.proofs.on_disk.ask.Goals as goal

pub returns-in-Ok-clause-ends : goal.returns-in-Ok-clause-ends
returns-in-Ok-clause-ends g c = request_replied _ _ c.in-Ok.opened c.run_request-status.result.1 _ _ c.in-Ok.ensures c.run_request-status.ensures
