use Rattle.c_answers.proofs.Updates.{update_given, update_not_device}
use Rattle.rlibreg_c.proofs.update.rlibreg_plan_update.Goals as goal

pub returns-clause-plan : goal.returns-clause-plan
returns-clause-plan c zero =
    let on = c.plan_update in
    update_given c.args.disk.now c.args.changes.now c.args.bytes.now on.new.plan on.new.text on.result on.result.status zero on.ensures.answered

pub returns-clause-device : goal.returns-clause-device
returns-clause-device c is =
    let on = c.plan_update in
    update_not_device c.args.disk.now c.args.changes.now c.args.bytes.now on.new.plan on.new.text on.result on.result.status is on.ensures.answered
