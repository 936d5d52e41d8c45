use Rattle.std.proofs.Common.{refl, subst, sym, ◌∙◌}
use Rattle.std.proofs.lemmas.Result.{err_from_is_err_and}
use Rattle.requests.specs.Request.{Request}
use Rattle.requests.specs.declared.reply.Reply.{Reply}
use Rattle.scripts.specs.Asked.{request_asked}
use Rattle.registry.specs.Updating.{DraftAnswers}
use Rattle.updates.proofs.lines.answer_asked.Goals as goal

pub returns-in_err-put_plan-in-Ok-clause-ok : goal.returns-in_err-put_plan-in-Ok-clause-ok
returns-in_err-put_plan-in-Ok-clause-ok g c =
    let p = err_from_is_err_and c.from_residual.result c.from_residual.ensures.1 in
    rw p.1 tt

pub returns-in_err-put_plan-in-Ok-clause-err : goal.returns-in_err-put_plan-in-Ok-clause-err
returns-in_err-put_plan-in-Ok-clause-err g c =
    let p = err_from_is_err_and c.from_residual.result c.from_residual.ensures.1 in
    let answered = λ (r : Request). DraftAnswers g.D.Disk.facts c.args.update.now r c.apply.result c.apply.new.self in
    let e = c.apply.ensures in
    let told = subst answered c.as_command-command.ensures (record { applied = e.applied; on_any_disk = e.on_any_disk; bound = e.bound }) in
    let is = c.in-Ok.ensures in
    rw p.1 (
      p.2 ∙ c.in_err-put_plan-in-Ok.ensures.err,
      c.in-Ok.reply,
      subst (λ (a : Reply). DraftAnswers g.D.Disk.facts c.args.update.now (request_asked c.args.asked.now) a c.apply.new.self) (sym is.0) told,
      is.1,
    )

pub returns-in_ok-put_plan-in-Ok-clause-ok : goal.returns-in_ok-put_plan-in-Ok-clause-ok
returns-in_ok-put_plan-in-Ok-clause-ok g c =
    let answered = λ (r : Request). DraftAnswers g.D.Disk.facts c.args.update.now r c.apply.result c.apply.new.self in
    let e = c.apply.ensures in
    let told = subst answered c.as_command-command.ensures (record { applied = e.applied; on_any_disk = e.on_any_disk; bound = e.bound }) in
    let is = c.in-Ok.ensures in (
      c.in-Ok.reply,
      subst (λ (a : Reply). DraftAnswers g.D.Disk.facts c.args.update.now (request_asked c.args.asked.now) a c.apply.new.self) (sym is.0) told,
      is.1,
      c.in_ok-put_plan-in-Ok.ensures.ok,
    )

pub returns-in-Err-clause-ok : goal.returns-in-Err-clause-ok
returns-in-Err-clause-ok g c =
    let answered = λ (r : Request). DraftAnswers g.D.Disk.facts c.args.update.now r c.apply.result c.apply.new.self in
    let e = c.apply.ensures in
    let told = subst answered c.as_command-command.ensures (record { applied = e.applied; on_any_disk = e.on_any_disk; bound = e.bound }) in
    (subst (λ (a : Reply). DraftAnswers g.D.Disk.facts c.args.update.now (request_asked c.args.asked.now) a c.apply.new.self) c.in-Err.ensures told, refl)
