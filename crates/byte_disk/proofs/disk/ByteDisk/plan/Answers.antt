use Rattle.byte_disk.proofs.Plans.{is_plan}
use Rattle.byte_disk.proofs.disk.ByteDisk.plan.Goals as goal

pub returns-clause-plan : goal.returns-clause-plan
returns-clause-plan c = is_plan c.args.self.now
