use Rattle.std.proofs.Common.{arith}
use Rattle.hash_check.proofs.Fronts.{no-end}
use Rattle.hash_check.proofs.search.may_end.Goals as goal

pub returns-else-size-rest : goal.returns-else-size-rest
returns-else-size-rest c = λ other is. no-end c.args.table.now c.args.offset c.min.result c.args.size c.min.ensures (omega (arith, c.if-size-rest.false)) other is
