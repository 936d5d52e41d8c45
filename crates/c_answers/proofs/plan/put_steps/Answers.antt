use Rattle.std.proofs.Common.{◌∙◌, ◌++◌, ap, sym, length, arith}
use Rattle.c_answers.proofs.Rows.{none_holds, none_given}
use Rattle.c_answers.proofs.Steps.{row, begun_all, begun_more, begun_size, begun_lacks}
use Rattle.c_answers.proofs.plan.put_steps.Goals as goal

pub returns-in_err-at-2-clause-small : goal.returns-in_err-at-2-clause-small
returns-in_err-at-2-clause-small c =
    let loop = c.loop-planned in
    none_holds c.from_residual-in_err-at-2.result
    (begun_lacks c.args.steps.now loop.planned-index c.planned-item.result (omega arith) c.planned-item.is
    (length c.args.plan.now) loop.at loop.invariant.at (omega (arith, c.in_err-at-2.ensures.small, loop.auto.plan)))

pub loop-planned-preserved : goal.loop-planned-preserved
loop-planned-preserved c =
    let loop = c.loop-planned in
    let steps = c.args.steps.now in
    let p = c.planned-item.result in
    let put = c.in_ok-at-2.ensures in
    record {
      at = omega (arith, put.end, loop.invariant.at, begun_size steps loop.planned-index p (omega arith) c.planned-item.is);
      front = put.front ∙ ap (λ l. l ++ row p) loop.invariant.front ∙ sym (begun_more steps loop.planned-index p (omega arith) c.planned-item.is);
    }

pub returns-clause-end : goal.returns-clause-end
returns-clause-end c = c.loop-planned.invariant.at ∙ ap length (begun_all c.args.steps.now c.loop-planned.planned-index (omega arith))

pub returns-clause-spelled : goal.returns-clause-spelled
returns-clause-spelled c = c.loop-planned.invariant.front ∙ begun_all c.args.steps.now c.loop-planned.planned-index (omega arith)

pub loop-planned-init : goal.loop-planned-init
loop-planned-init c = record { at = c.in_ok-at.ensures.end; front = c.in_ok-at.ensures.front }

pub returns-in_err-at-2-clause-end : goal.returns-in_err-at-2-clause-end
returns-in_err-at-2-clause-end c = none_given c.from_residual-in_err-at-2.result c.from_residual-in_err-at-2.ensures _

pub returns-in_err-at-2-clause-spelled : goal.returns-in_err-at-2-clause-spelled
returns-in_err-at-2-clause-spelled c = none_given c.from_residual-in_err-at-2.result c.from_residual-in_err-at-2.ensures _
