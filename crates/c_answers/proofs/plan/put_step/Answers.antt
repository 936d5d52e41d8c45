use Rattle.std.proofs.Common.{◌≡◌, ◌++◌, ℕ, List, subst, sym, take}
use Rattle.std.specs.Prelude.{IfSome}
use Rattle.byte_disk.specs.declared.step.Step.{Step}
use Rattle.c_answers.specs.Spelling.{step_bytes}
use Rattle.c_answers.proofs.plan.put_step.Goals as goal

pub returns-in-Sync-clause-front : goal.returns-in-Sync-clause-front
returns-in-Sync-clause-front c =
    let put = c.put-in-Sync in
    let front : List ℕ → Type 0 = λ b. IfSome put.result (λ end. take end put.new.out ≡ take c.args.at c.args.plan.now ++ b) in
    subst (λ (s : Step). front (step_bytes s)) (sym c.in-Sync.is) (subst front c.to_le_bytes-in-Sync.ensures put.ensures.front)
