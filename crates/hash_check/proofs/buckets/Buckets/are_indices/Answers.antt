use Rattle.std.proofs.Common.{◌<◌, arith, refl, subst, below_more, get_or}
use Rattle.std.proofs.lemmas.List.{get_or_default}
use Rattle.hash_check.proofs.buckets.Buckets.are_indices.Goals as goal

pub returns-then-word-n : goal.returns-then-word-n
returns-then-word-n c = (
  λ t. let f = t in absurd (cc),
  λ all. absurd (omega (arith, all c.loop-i.i 0 (omega arith))),
)

pub loop-i-preserved : goal.loop-i-preserved
loop-i-preserved c = below_more (λ k. get_or c.args.self.now k 0 < c.args.n) c.loop-i.i c.loop-i.invariant (subst (λ w. w < c.args.n) c.word.ensures c.if-word-n.false)

pub returns : goal.returns
returns c = (
  λ t k d lt. omega (arith, get_or_default c.args.self.now k d 0 lt, c.loop-i.invariant k (omega arith)),
  λ all. refl,
)
