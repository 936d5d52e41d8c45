use Rattle.c_answers.proofs.Names.{no_names, split_names}
use Rattle.c_answers.proofs.preload.names_in.Goals as goal

pub returns-then-last-ne0 : goal.returns-then-last-ne0
returns-then-last-ne0 c = no_names c.args.bytes.now c.in-Some.row.now c.in-Some.last.now c.in-Some.ensures.cases.0 c.if-last-ne0.true

pub returns : goal.returns
returns c = split_names c.args.bytes.now c.in-Some.row.now c.in-Some.last.now _ c.in-Some.ensures.cases.0 c.if-last-ne0.false c.in_ok-parts_of.ensures
