use Rattle.std.proofs.Common.{List, ⊎_elim, inl, inr, ap, map, subst}
use Rattle.c_answers.specs.Changes.{request_asked}
use Rattle.c_answers.specs.Update.{IsAskedOrMemory}
use Rattle.c_answers.specs.declared.answer.Answer.{Answer}
use Rattle.c_answers.specs.declared.asked_change.AskedChange.{AskedChange}
use Rattle.c_answers.proofs.Given.{nothing_said}
use Rattle.c_answers.proofs.update.plan_update.Goals as goal

pub returns-in-Ok-Some-clause-answered : goal.returns-in-Ok-Some-clause-answered
returns-in-Ok-Some-clause-answered c =
    let on = c.plan_asked in
    let mean = rw c.in-Ok-Some.field-0-is at c.in-Ok-Some.ensures in
    ⊎_elim (λ told. inl (map request_asked c.in-Ok-Some.asked.items, mean, told)) (λ wants. inr (inr wants))
    (subst (λ (asked : List AskedChange). IsAskedOrMemory c.args.disk.now (map request_asked asked) on.new.plan on.new.text on.result on.result.status)
    c.deref.ensures.value on.ensures.answered)

pub returns-in-Ok-None-clause-answered : goal.returns-in-Ok-None-clause-answered
returns-in-Ok-None-clause-answered c =
    let nothing = nothing_said c.of.result 2 c.of.ensures in
    inr (inl (ap (λ (a : Answer). a.status) c.of.ensures, rw c.in-Ok-None.field-0-is at c.in-Ok-None.ensures, nothing.0, nothing.1))

pub returns-in-Err-clause-answered : goal.returns-in-Err-clause-answered
returns-in-Err-clause-answered c = inr (inr (c.tell_memory.ensures.told, c.tell_memory.ensures.uncounted))
