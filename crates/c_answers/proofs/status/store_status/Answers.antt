use Rattle.std.proofs.Common.{ap, sym}
use Rattle.c_answers.specs.Numbers.{store_number}
use Rattle.c_answers.proofs.status.store_status.Goals as goal

pub returns-in-Full : goal.returns-in-Full
returns-in-Full c = ap store_number (sym c.in-Full.is)
