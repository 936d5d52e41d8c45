use Rattle.std.proofs.Common.{◌∙◌, ◌-◌, ◌^◌, ap, min, length, arith}
use Rattle.c_answers.proofs.Steps.{begun_all, begun_size}
use Rattle.c_answers.proofs.plan.plan_bytes.Goals as goal

pub loop-planned-preserved : goal.loop-planned-preserved
loop-planned-preserved c =
    let loop = c.loop-planned in
    omega (arith, loop.invariant, c.saturating_add-bytes.ensures, c.step_bytes.ensures, begun_size c.args.steps.now loop.planned-index c.planned-item.result (omega arith) c.planned-item.is)

pub returns : goal.returns
returns c = c.loop-planned.invariant ∙ ap (λ l. min (length l) (2 ^ 64 - 1)) (begun_all c.args.steps.now c.loop-planned.planned-index (omega arith))
