use Rattle.std.proofs.Common.{◌∙◌, sym}
use Rattle.image.proofs.placed.PlacedOrder.own_address.Goals as goal

pub returns-then-is_absolute : goal.returns-then-is_absolute
returns-then-is_absolute c =
    let at = rw c.object.ensures.file at c.symbol-found.ensures.symbol in
    rw (at, sym c.is_absolute.ensures ∙ c.if-is_absolute.true)
