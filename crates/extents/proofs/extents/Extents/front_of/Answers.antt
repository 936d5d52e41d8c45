use Rattle.std.proofs.Common.{[], ◌∷◌, ◌++◌, ap, ◌∙◌}
use Rattle.extents.specs.declared.extent.Extent.{Extent}
use Rattle.extents.proofs.extents.Extents.front_of.Goals as goal

pub returns : goal.returns
returns c =
    let front : Extent = record { start = c.args.run.start; count = c.args.count } in
    c.push.ensures.items ∙ ap (λ l. l ++ front ∷ []) c.new-list.ensures
