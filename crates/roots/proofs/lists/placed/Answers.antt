use Rattle.std.proofs.Common.{◌++◌, ap, ◌∙◌, length, drop, replicate}
use Rattle.std.proofs.lemmas.List.{drop-replicate}
use Rattle.roots.proofs.lists.placed.Goals as goal

pub returns : goal.returns
returns g c =
    ap (λ front. front ++ drop (length c.args.values.now) (replicate g.row.N c.args.unused)) c.copy_from_slice.ensures.after
    ∙ ap (λ rest. c.args.values.now ++ rest) (drop-replicate (length c.args.values.now) g.row.N c.args.unused)
