use Rattle.c_answers.proofs.Device.{check_not_device}
use Rattle.c_answers.proofs.Findings.{check_given}
use Rattle.rlibreg_c.proofs.check.rlibreg_check.Goals as goal

pub returns-clause-check : goal.returns-clause-check
returns-clause-check c zero =
    let on = c.check_on in
    check_given c.args.disk.now on.new.findings on.new.names on.new.text on.result on.result.status zero on.ensures

pub returns-clause-device : goal.returns-clause-device
returns-clause-device c is =
    let on = c.check_on in
    check_not_device on.new.text on.result on.result.status is c.args.disk.now on.new.findings on.new.names on.ensures
