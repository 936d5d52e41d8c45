use Rattle.c_answers.proofs.Bindings.{bindings_given}
use Rattle.c_answers.proofs.Device.{bindings_not_device}
use Rattle.rlibreg_c.proofs.symbols.rlibreg_bindings.Goals as goal

pub returns-clause-bindings : goal.returns-clause-bindings
returns-clause-bindings c tells =
    let on = c.bindings_on in
    bindings_given c.args.disk.now c.args.program.now c.args.base on.new.bytes on.new.text on.result on.result.status tells on.ensures.answered

pub returns-clause-device : goal.returns-clause-device
returns-clause-device c is =
    let on = c.bindings_on in
    bindings_not_device on.new.text on.result on.result.status is c.args.disk.now c.args.program.now c.args.base on.new.bytes on.ensures.answered
