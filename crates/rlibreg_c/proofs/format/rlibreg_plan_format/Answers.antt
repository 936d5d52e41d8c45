use Rattle.c_answers.proofs.Device.{format_not_device}
use Rattle.c_answers.proofs.Given.{format_given}
use Rattle.rlibreg_c.proofs.format.rlibreg_plan_format.Goals as goal

pub returns-clause-answered : goal.returns-clause-answered
returns-clause-answered c = c.format_on.ensures.answered

pub returns-clause-plan : goal.returns-clause-plan
returns-clause-plan c zero =
    let on = c.format_on in
    format_given c.args.disk.now on.new.plan on.new.text on.result on.result.status zero (returns-clause-answered c)

pub returns-clause-device : goal.returns-clause-device
returns-clause-device c is =
    let on = c.format_on in
    format_not_device on.new.text on.result on.result.status is c.args.disk.now on.new.plan (returns-clause-answered c)
