use Rattle.std.proofs.Common.{◌∷◌, ◌++◌, ◌∙◌, [], None, ap, arith}
use Rattle.std.proofs.Math.ListN.{replicate}
use Rattle.std.proofs.lemmas.List.{replicate_more}
use Rattle.scope.proofs.definitions.no_definitions.Goals as goal

pub loop-number-preserved : goal.loop-number-preserved
loop-number-preserved c = (
  c.push_reserved.ensures.items
      ∙ ap (λ l. l ++ c.none.result ∷ []) c.loop-number.invariant.0
      ∙ ap (λ x. replicate c.loop-number.number None ++ x ∷ []) c.none.ensures
      ∙ replicate_more c.loop-number.number None,
  omega (arith, c.push_reserved.ensures.len, c.loop-number.invariant.1),
  omega (arith, c.push_reserved.ensures.capacity, c.loop-number.invariant.2),
)
