use Rattle.std.proofs.Common.{[], ◌∷◌, ◌++◌, ap, ◌∙◌}
use Rattle.std.specs.Prelude.{is_ok, if◌then◌else◌}
use Rattle.byte_disk.specs.declared.planned.PlannedStep.{PlannedStep}
use Rattle.byte_disk.proofs.disk.make_step.Goals as goal

pub returns-clause-made : goal.returns-clause-made
returns-clause-made c =
    let steps = c.args.planned.now.items in
    let made : PlannedStep = record { step = c.args.step; idle = c.replace-idle.result } in
    c.push.ensures.items
    ∙ ap (λ r. if is_ok r then steps ++ made ∷ [] else steps) c.unwrap.ensures
    ∙ ap (λ idle. steps ++ record { step = c.args.step; idle = idle } ∷ []) c.replace-idle.ensures.value
