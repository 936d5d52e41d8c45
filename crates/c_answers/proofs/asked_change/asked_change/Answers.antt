use Rattle.std.proofs.Common.{arith}
use Rattle.c_answers.proofs.Changes.{read_change}
use Rattle.c_answers.proofs.asked_change.asked_change.Goals as goal

pub returns-in-Some : goal.returns-in-Some
returns-in-Some c = read_change c.args.bytes.now c.in-Some.own.now c.args.change.now c.in-Some.ensures.0 c.in-Some.ensures.1 c.asked_of.result c.asked_of.ensures

pub returns-in-None : goal.returns-in-None
returns-in-None c = λ request means. omega (arith, means.inside, c.in-None.ensures)
