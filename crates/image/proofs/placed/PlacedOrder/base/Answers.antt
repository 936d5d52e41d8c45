use Rattle.std.proofs.Common.{List, ℕ, length, ◌<◌, ◌∙◌, refl, sym, arith}
use Rattle.std.proofs.lemmas.Option.{get_or_from_slice_get, slice_get_read}
use Rattle.image.proofs.Bases.{count-kept, base-is}
use Rattle.image.proofs.placed.PlacedOrder.base.Goals as goal

pub index-requires : goal.index-requires
index-requires c =
    let p = c.self.inside in
    omega (arith, c.requires, p.bases.ok.0, count-kept p.order.now p.bases.items c.args.self.now c.self.invariant.counted c.self.view_is)

pub returns : goal.returns
returns c =
    let p = c.self.inside in
    let bs : List ℕ = p.bases.items in
    let i = c.args.i in
    let x = c.index.result.now in
    let within : i < length bs = omega (arith, c.requires, count-kept p.order.now bs c.args.self.now c.self.invariant.counted c.self.view_is) in
    sym (get_or_from_slice_get bs i x 0 (slice_get_read bs (length bs) i x refl within c.index.ensures))
    ∙ base-is p.order.now bs c.args.self.now i c.self.invariant.counted c.self.view_is
