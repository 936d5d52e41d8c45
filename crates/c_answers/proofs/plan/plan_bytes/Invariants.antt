use Rattle.std.proofs.Common.{◌≡◌, ◌-◌, ◌^◌, length, min}
use Rattle.c_answers.proofs.Steps.{begun}
use Rattle.c_answers.proofs.plan.plan_bytes.Given as goal

abbrev pub invariant-loop-planned : goal.invariant-loop-planned
invariant-loop-planned l = l.bytes ≡ min (length (begun l.steps l.planned-index)) (2 ^ 64 - 1)
