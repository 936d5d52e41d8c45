use Rattle.std.proofs.Common.{◌≡◌, ◌+◌, sym, ap, ◌∙◌, below_more, length, arith}
use Rattle.scope.specs.Lookup.{definition_at}
use Rattle.scope.proofs.FirstOf.{none_from, some_from}
use Rattle.scope.proofs.lookup.first_by_walks.Goals as goal

pub loop-place-preserved : goal.loop-place-preserved
loop-place-preserved c = below_more _ _ c.loop-place.invariant (sym c.definition_at.ensures ∙ c.in_default.is)

pub returns-in-Some : goal.returns-in-Some
returns-in-Some c =
    let at = definition_at c.args.order.now c.args.name.now in
    let e : 0 + c.loop-place.place ≡ c.loop-place.place = omega arith in
    sym (some_from at c.loop-place.place (length c.args.order.now) 0 c.in-Some.found (omega arith) (λ k ge lt. c.loop-place.invariant k (omega (arith, lt)))
    (ap at e ∙ sym c.definition_at.ensures ∙ c.in-Some.is))

pub returns : goal.returns
returns c =
    sym (none_from (definition_at c.args.order.now c.args.name.now) (length c.args.order.now) 0 (λ k ge lt. c.loop-place.invariant k (omega (arith, lt))))
