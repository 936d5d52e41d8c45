use Rattle.std.proofs.Common.{subst}
use Rattle.image.specs.Image.{AreRising, MemoryImage}
use Rattle.image.proofs.Filled.{rising-segments}
use Rattle.image.proofs.image.Image.segments.Goals as goal

pub returns-clause-rising : goal.returns-clause-rising
returns-clause-rising c =
    subst (λ (m : MemoryImage). AreRising 0 m.segments) c.self.view_is (rising-segments 0 c.self.inside.segments.items c.self.invariant.rising c.self.invariant.low)
