use Rattle.commands.proofs.Asking.{upgrade_told}
use Rattle.commands.proofs.on_disk.upgrade.Goals as goal

pub returns-in-Ok-clause-ends : goal.returns-in-Ok-clause-ends
returns-in-Ok-clause-ends g c = upgrade_told _ _ c.in-Ok.opened c.run_upgrade-status.result.1 _ c.in-Ok.ensures c.run_upgrade-status.ensures
