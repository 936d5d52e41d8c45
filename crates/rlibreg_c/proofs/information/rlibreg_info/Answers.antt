use Rattle.c_answers.proofs.Device.{info_not_device}
use Rattle.c_answers.proofs.Contents.{info_given}
use Rattle.rlibreg_c.proofs.information.rlibreg_info.Goals as goal

pub returns-clause-info : goal.returns-clause-info
returns-clause-info c zero =
    let on = c.info_on in
    info_given c.args.disk.now on.new.information on.new.text on.result on.result.status zero on.ensures.answered

pub returns-clause-device : goal.returns-clause-device
returns-clause-device c is =
    let on = c.info_on in
    info_not_device on.new.text on.result on.result.status is c.args.disk.now on.new.information on.ensures.answered
