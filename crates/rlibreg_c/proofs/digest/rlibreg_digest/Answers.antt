use Rattle.c_answers.proofs.Device.{digest_not_device}
use Rattle.c_answers.proofs.Contents.{digest_given}
use Rattle.rlibreg_c.proofs.digest.rlibreg_digest.Goals as goal

pub returns-clause-digest : goal.returns-clause-digest
returns-clause-digest c zero =
    let on = c.digest_on in
    digest_given c.args.disk.now c.args.name.now on.new.digest on.new.text on.result on.result.status zero on.ensures.answered

pub returns-clause-device : goal.returns-clause-device
returns-clause-device c is =
    let on = c.digest_on in
    digest_not_device on.new.text on.result on.result.status is c.args.disk.now c.args.name.now on.new.digest on.ensures.answered
