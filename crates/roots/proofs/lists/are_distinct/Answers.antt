use Rattle.std.proofs.Common.{arith, refl, sym, true≢false}
use Rattle.roots.proofs.Distinct.{apart_more, not_apart}
use Rattle.roots.proofs.lists.are_distinct.Goals as goal

pub returns : goal.returns
returns g c = (λ _ i j d less within. c.loop-i.invariant j (omega arith) i d less, λ _. refl)

pub returns-then-contains : goal.returns-then-contains
returns-then-contains g c =
    let repeated = not_apart g.T.PartialEq.eq c.args.values.now c.loop-i.i c.index-values-i.result c.index-values-i.is c.loop-i-test.true c.if-contains.ensures.cases in
    (λ none. absurd (true≢false (sym none)), λ apart. absurd (repeated apart))

pub loop-i-init : goal.loop-i-init
loop-i-init g c k less = absurd (omega arith)

pub loop-i-preserved : goal.loop-i-preserved
loop-i-preserved g c = apart_more g.T.PartialEq.eq c.args.values.now c.loop-i.i c.index-values-i.result c.index-values-i.is c.loop-i-test.true c.loop-i.invariant c.if-contains.ensures.cases
