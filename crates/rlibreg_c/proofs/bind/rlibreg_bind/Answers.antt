use Rattle.c_answers.proofs.Device.{bind_not_device}
use Rattle.c_answers.proofs.Given.{image_given}
use Rattle.rlibreg_c.proofs.bind.rlibreg_bind.Goals as goal

pub returns-clause-image : goal.returns-clause-image
returns-clause-image c zero =
    let on = c.bind_on in
    image_given c.args.disk.now c.args.program.now c.args.base on.new.objects on.new.segments on.new.bytes on.new.text on.result on.result.status zero on.ensures

pub returns-clause-device : goal.returns-clause-device
returns-clause-device c is =
    let on = c.bind_on in
    bind_not_device on.new.text on.result on.result.status is c.args.disk.now _ on.new.objects on.new.segments on.new.bytes on.ensures
