use Rattle.std.proofs.Common.{arith}
use Rattle.hash_check.proofs.NameLengths.{no-name}
use Rattle.hash_check.proofs.names.name_at.Goals as goal

pub returns-else-i-symbol_count : goal.returns-else-i-symbol_count
returns-else-i-symbol_count c = no-name c.args.object.now c.args.i (omega (arith, c.symbol_count.ensures.count))
