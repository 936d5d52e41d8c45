use Rattle.std.proofs.Common.{◌∙◌, arith}
use Rattle.image.proofs.Bases.{count-kept, name-is}
use Rattle.image.proofs.placed.PlacedOrder.name.Goals as goal

pub name-requires : goal.name-requires
name-requires c =
    let p = c.self.inside in
    omega (arith, c.requires, c.self.invariant.counted, count-kept p.order.now p.bases.items c.args.self.now c.self.invariant.counted c.self.view_is)

pub returns : goal.returns
returns c =
    let p = c.self.inside in
    c.name.ensures.name ∙ name-is p.order.now p.bases.items c.args.self.now c.args.i c.self.invariant.counted c.self.view_is
