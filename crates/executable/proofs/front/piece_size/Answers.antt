use Rattle.std.proofs.Common.{arith}
use Rattle.std.proofs.lemmas.Grind.{common_steps}
use Rattle.executable.proofs.Lengths.{length-piece_bytes}
use Rattle.executable.proofs.front.piece_size.Goals as goal

pub returns : goal.returns
returns c = rw (length-piece_bytes c.args.piece.now) (grind (arith, common_steps))
