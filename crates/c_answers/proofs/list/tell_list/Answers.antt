use Rattle.c_answers.proofs.Given.{list_told}
use Rattle.c_answers.proofs.list.tell_list.Goals as goal

pub returns-in-Listing : goal.returns-in-Listing
returns-in-Listing c s holds =
    let on = c.give in
    list_told s c.args.reply.now c.in-Listing.listing on.new.entries on.new.names on.new.text on.result c.generation_of.result on.result.status
    c.in-Listing.is (c.generation_of.ensures s holds) on.ensures
