use Rattle.std.proofs.Common.{◌≡◌, length, take}
use Rattle.c_answers.proofs.Steps.{begun}
use Rattle.c_answers.proofs.plan.put_steps.Given as goal

abbrev pub invariant-loop-planned : goal.invariant-loop-planned
invariant-loop-planned l = record {
  at : l.at ≡ length (begun l.steps l.planned-index);
  front : take l.at l.plan ≡ begun l.steps l.planned-index;
}
