use Rattle.std.proofs.Common.{sym, ap, subst, ◌∙◌, All, arith}
use Rattle.std.proofs.lemmas.List.Elements.{All-push}
use Rattle.extents.specs.Extent.{places}
use Rattle.store.specs.inside.Claimed.{IsFilled}
use Rattle.store.proofs.Ordered.{singles_more}
use Rattle.store.proofs.used.push_singles.Goals as goal

pub loop-at-preserved : goal.loop-at-preserved
loop-at-preserved c =
    let so_far = c.loop-at.extents.items in
    let items = c.in_ok-push.ensures.items in (
      ap places items ∙ singles_more (places c.args.extents.now.items) so_far c.args.sectors.now c.loop-at.at-index _ c.loop-at-test.true c.loop-at.invariant.0,
      λ filled. subst (All IsFilled) (sym items) (All-push IsFilled so_far _ (c.loop-at.invariant.1 filled) (omega arith)),
    )
