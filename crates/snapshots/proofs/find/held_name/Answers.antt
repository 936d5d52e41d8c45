use Rattle.std.proofs.Common.{refl, arith}
use Rattle.snapshots.proofs.find.held_name.Goals as goal

pub returns-in-None : goal.returns-in-None
returns-in-None g c placed by = absurd (omega (arith, c.holds_are_sound.ensures.holders c.args.held.now placed by, c.in-None.ensures.none.0 refl))
