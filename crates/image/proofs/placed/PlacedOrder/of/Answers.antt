use Rattle.std.proofs.Common.{ap, ◌∙◌}
use Rattle.image.specs.inside.Segments.{with_bases}
use Rattle.image.proofs.Bases.{is-placed, with-place}
use Rattle.image.proofs.placed.PlacedOrder.of.Goals as goal

pub invariant_of-result : goal.invariant_of-result
invariant_of-result c = is-placed c.args.base c.args.order.now c.in_ok-bases.bases.items c.in_ok-bases.ensures.order c.in_ok-bases.ensures.ok c.in_ok-bases.ensures.room

pub returns-clause-ok : goal.returns-clause-ok
returns-clause-ok c = ap (with_bases c.args.order.now) c.in_ok-bases.ensures.ok ∙ with-place c.args.base c.args.order.now
