use Rattle.c_answers.proofs.Device.{preload_not_device}
use Rattle.c_answers.proofs.Given.{preload_given}
use Rattle.rlibreg_c.proofs.preload.rlibreg_plan_preload.Goals as goal

pub returns-clause-plan : goal.returns-clause-plan
returns-clause-plan c zero =
    let on = c.plan_preloads in
    preload_given c.args.disk.now c.args.names.now on.new.plan on.new.text on.result on.result.status zero on.ensures.answered

pub returns-clause-device : goal.returns-clause-device
returns-clause-device c is =
    let on = c.plan_preloads in
    preload_not_device on.new.text on.result on.result.status is c.args.disk.now c.args.names.now on.new.plan on.ensures.answered
