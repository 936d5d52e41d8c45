use Rattle.c_answers.proofs.Device.{upgrade_not_device}
use Rattle.c_answers.proofs.Given.{upgrade_given}
use Rattle.rlibreg_c.proofs.upgrade.rlibreg_plan_upgrade.Goals as goal

pub returns-clause-plan : goal.returns-clause-plan
returns-clause-plan c zero =
    let on = c.upgrade_on in
    upgrade_given c.args.disk.now on.new.plan on.new.text on.result on.result.status zero on.ensures.answered

pub returns-clause-device : goal.returns-clause-device
returns-clause-device c is =
    let on = c.upgrade_on in
    upgrade_not_device on.new.text on.result on.result.status is c.args.disk.now on.new.plan on.ensures.answered
