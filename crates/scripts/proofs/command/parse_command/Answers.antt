use Rattle.std.proofs.Common.{rules}
use Rattle.scripts.proofs.Forms.{asks_none}
use Rattle.scripts.proofs.command.parse_command.Goals as goal

pub returns : goal.returns
returns c =
    asks_none c.args.line.now c.in_default.ensures c.in_default-behind.ensures c.in_default-behind-2.ensures c.in_default-behind-3.ensures c.in_default-behind-4.ensures (search rules)
