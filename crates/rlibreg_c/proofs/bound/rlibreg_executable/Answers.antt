use Rattle.c_answers.proofs.Device.{executable_not_device}
use Rattle.c_answers.proofs.Executable.{executable_given}
use Rattle.rlibreg_c.proofs.bound.rlibreg_executable.Goals as goal

pub returns-clause-executable : goal.returns-clause-executable
returns-clause-executable c zero =
    let on = c.executable_on in
    executable_given c.args.disk.now c.args.program.now c.args.base on.new.bytes on.new.text on.result on.result.status zero on.ensures.answered

pub returns-clause-device : goal.returns-clause-device
returns-clause-device c is =
    let on = c.executable_on in
    executable_not_device on.new.text on.result on.result.status is c.args.disk.now _ on.new.bytes on.ensures.answered
