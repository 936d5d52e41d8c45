use Rattle.std.proofs.Common.{refl}
use Rattle.registry.proofs.rounds.pick.Goals as goal

pub returns : goal.returns
returns c = refl
