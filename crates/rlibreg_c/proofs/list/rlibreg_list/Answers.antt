use Rattle.c_answers.proofs.Device.{list_not_device}
use Rattle.c_answers.proofs.Given.{listing_given}
use Rattle.rlibreg_c.proofs.list.rlibreg_list.Goals as goal

pub returns-clause-listing : goal.returns-clause-listing
returns-clause-listing c zero =
    let on = c.list_on in
    listing_given c.args.disk.now on.new.entries on.new.names on.new.text on.result on.result.status zero on.ensures

pub returns-clause-device : goal.returns-clause-device
returns-clause-device c is =
    let on = c.list_on in
    list_not_device on.new.text on.result on.result.status is c.args.disk.now on.new.entries on.new.names on.ensures
