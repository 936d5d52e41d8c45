use Rattle.std.proofs.Common.{◌∙◌, sym}
use Rattle.image.proofs.Bases.{count-kept}
use Rattle.image.proofs.placed.PlacedOrder.count.Goals as goal

pub returns-clause-count : goal.returns-clause-count
returns-clause-count c =
    let p = c.self.inside in
    c.len.ensures ∙ p.bases.ok.0 ∙ sym (count-kept p.order.now p.bases.items c.args.self.now c.self.invariant.counted c.self.view_is)
