use Rattle.std.proofs.Common.{ℕ}
use Rattle.std.proofs.lemmas.List.{take-replicate}
use Rattle.executable.proofs.executable.write_zeros.Goals as goal

pub returns : goal.returns
returns g c = rw (← take-replicate {X = ℕ} c.args.count 4096 0 c.requires) c.write_all.ensures.bytes
