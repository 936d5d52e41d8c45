use Rattle.std.proofs.Common.{List, ◌∙◌, inl, inr, ap, map, subst}
use Rattle.requests.specs.Request.{Request, request_of}
use Rattle.c_answers.specs.Update.{IsAskedTold}
use Rattle.c_answers.proofs.update.plan_asked.Goals as goal

pub returns-in-Ok-clause-answered : goal.returns-in-Ok-clause-answered
returns-in-Ok-clause-answered c =
    let on = c.plan_commands in
    inl (subst (λ (requests : List Request). IsAskedTold c.args.disk.now requests on.new.plan on.new.text on.result on.result.status)
    (ap (map request_of) c.deref.ensures.value ∙ c.in-Ok.ensures) on.ensures.answered)

pub returns-in-Err-clause-answered : goal.returns-in-Err-clause-answered
returns-in-Err-clause-answered c = inr (c.tell_memory.ensures.told, c.tell_memory.ensures.uncounted)
