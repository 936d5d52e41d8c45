use Rattle.image.specs.Placement.{place}
use Rattle.image.specs.inside.Bound.{IsFilled}
use Rattle.image.proofs.binding.bind.Given as goal

abbrev pub invariant-loop-i : goal.invariant-loop-i
invariant-loop-i l = IsFilled (place l.base l.order) l.i l.image
