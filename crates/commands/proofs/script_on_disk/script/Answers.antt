use Rattle.commands.proofs.Statuses.{disk_script_ends}
use Rattle.commands.proofs.script_on_disk.script.Goals as goal

pub returns-in-Ok-clause-ends : goal.returns-in-Ok-clause-ends
returns-in-Ok-clause-ends g c = disk_script_ends c.in-Ok.opened c.run_disk_script-status.result.1 _ _ c.in-Ok.ensures c.run_disk_script-status.ensures.answers c.run_disk_script-status.ensures.ends
