use Rattle.std.proofs.Common.{◌<◌, arith, refl, subst, below_more, get_or}
use Rattle.std.proofs.lemmas.List.{get_or_default}
use Rattle.hash_check.proofs.chains.Chains.are_indices.Goals as goal

pub returns-then-next-count : goal.returns-then-next-count
returns-then-next-count c = (
  λ t. let f = t in absurd (cc),
  λ all. absurd (omega (arith, all c.loop-i.i 0 (omega arith))),
)

pub loop-i-preserved : goal.loop-i-preserved
loop-i-preserved c =
    below_more (λ k. get_or c.args.self.now k 0 < c.count-count.result) c.loop-i.i c.loop-i.invariant
    (subst (λ w. w < c.count-count.result) c.next.ensures c.if-next-count.false)

pub returns : goal.returns
returns c = (
  λ t k d lt. omega (arith, get_or_default c.args.self.now k d 0 lt, c.loop-i.invariant k (omega arith)),
  λ all. refl,
)
