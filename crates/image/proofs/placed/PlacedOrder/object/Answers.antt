use Rattle.std.proofs.Common.{◌∙◌, arith}
use Rattle.image.proofs.Bases.{count-kept, file-is}
use Rattle.image.proofs.placed.PlacedOrder.object.Goals as goal

pub object-admitted-requires : goal.object-admitted-requires
object-admitted-requires c =
    let p = c.self.inside in
    omega (arith, c.requires, c.self.invariant.counted, count-kept p.order.now p.bases.items c.args.self.now c.self.invariant.counted c.self.view_is)

pub returns-clause-file : goal.returns-clause-file
returns-clause-file c =
    let p = c.self.inside in
    c.object.ensures.same ∙ c.object-admitted.ensures.file ∙ file-is p.order.now p.bases.items c.args.self.now c.args.i c.self.invariant.counted c.self.view_is
