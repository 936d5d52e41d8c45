use Rattle.c_answers.proofs.Device.{file_not_device}
use Rattle.c_answers.proofs.Contents.{file_given}
use Rattle.rlibreg_c.proofs.file.rlibreg_file.Goals as goal

pub returns-clause-file : goal.returns-clause-file
returns-clause-file c zero =
    let on = c.file_on in
    file_given c.args.disk.now c.args.name.now on.new.bytes on.new.text on.result on.result.status zero on.ensures

pub returns-clause-device : goal.returns-clause-device
returns-clause-device c is =
    let on = c.file_on in
    file_not_device on.new.text on.result on.result.status is c.args.disk.now c.args.name.now on.new.bytes on.ensures
