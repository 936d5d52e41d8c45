use Rattle.std.proofs.Common.{List, ℕ, map, inl, inr, ap, subst}
use Rattle.std.specs.Borrow.{Bor}
use Rattle.requests.specs.Request.{set_preloads}
use Rattle.c_answers.specs.Answers.{IsChangeAnswered}
use Rattle.c_answers.specs.declared.answer.Answer.{Answer}
use Rattle.c_answers.proofs.Given.{nothing_said}
use Rattle.c_answers.proofs.preload.plan_preloads.Goals as goal

pub returns-in-Ok-Some-clause-answered : goal.returns-in-Ok-Some-clause-answered
returns-in-Ok-Some-clause-answered c =
    let change = c.plan_change in
    let are = rw c.in-Ok-Some.field-0-is at c.in-Ok-Some.ensures in
    inl (
      map (λ (name : Bor (List ℕ)). name.now) c.in-Ok-Some.names.items,
      are,
      subst
          (λ (names : List (Bor (List ℕ))). IsChangeAnswered c.args.disk.now
          (set_preloads (map (λ (name : Bor (List ℕ)). name.now) names)) change.new.plan change.new.text change.result change.result.status)
          c.deref.ensures.value change.ensures.answered,
    )

pub returns-in-Ok-None-clause-answered : goal.returns-in-Ok-None-clause-answered
returns-in-Ok-None-clause-answered c =
    let nothing = nothing_said c.of.result 2 c.of.ensures in
    inr (inl (ap (λ (a : Answer). a.status) c.of.ensures, rw c.in-Ok-None.field-0-is at c.in-Ok-None.ensures, nothing.0, nothing.1))

pub returns-in-Err-clause-answered : goal.returns-in-Err-clause-answered
returns-in-Err-clause-answered c = inr (inr (c.tell_memory.ensures.told, c.tell_memory.ensures.uncounted))
