use Rattle.std.proofs.Common.{ap, ◌∙◌, nat_eq}
use Rattle.std.specs.Prelude.{◌%◌}
use Rattle.image.specs.Placement.{unit}
use Rattle.image.proofs.placement.good_base.Goals as goal

pub returns : goal.returns
returns c = ap (λ u. nat_eq (c.args.base % u) 0) (c.unit.ensures ∙ ap unit c.object.ensures.same)
