use Rattle.std.proofs.Common.{List, ap, subst, ◌∙◌}
use Rattle.scope.specs.LoadOrder.{available}
use Rattle.scope.specs.Objects.{Named}
use Rattle.image.specs.Placement.{place}
use Rattle.image.specs.Refusal.{placed_refusal}
use Rattle.registry.specs.inside.Walked.{IsImageOf}
use Rattle.registry.proofs.Owned.{tested_as}
use Rattle.registry.proofs.bound.bind_files.Goals as goal

pub returns : goal.returns
returns c =
    let placed = place c.args.base c.in_ok-order.order in
    let e = c.bind.ensures in
    subst (λ (os : List Named). IsImageOf (placed_refusal (place c.args.base os)) (place c.args.base os) c.bind.result)
    (c.in_ok-order.ensures ∙ ap (available c.args.program.now) (c.deref.ensures.value ∙ c.in_ok-libraries.ensures))
    (record { tested = tested_as placed c.bind.result e.accepted e.refused; ok = e.ok; bytes = e.bytes })
