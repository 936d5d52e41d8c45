use Rattle.std.proofs.Common.{List, ap, subst, ◌∙◌}
use Rattle.scope.specs.LoadOrder.{available}
use Rattle.scope.specs.Objects.{Named}
use Rattle.image.specs.Placement.{place}
use Rattle.image.specs.Refusal.{placed_refusal}
use Rattle.registry.specs.inside.Walked.{IsTestedBy}
use Rattle.registry.proofs.Owned.{tested_as}
use Rattle.registry.proofs.bound.bound_files.Goals as goal

pub returns-clause-tested : goal.returns-clause-tested
returns-clause-tested c =
    let e = c.bound_objects.ensures in
    subst (λ (os : List Named). IsTestedBy (placed_refusal (place c.args.base os)) c.bound_objects.result)
    (c.in_ok-order.ensures ∙ ap (available c.args.program.now) (c.deref.ensures.value ∙ c.in_ok-libraries.ensures))
    (tested_as (place c.args.base c.in_ok-order.order) c.bound_objects.result e.accepted e.refused)
