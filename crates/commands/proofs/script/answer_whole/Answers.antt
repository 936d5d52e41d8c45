use Rattle.std.proofs.Common.{refl, sym, subst, ◌∙◌}
use Rattle.std.proofs.lemmas.Result.{err_from_is_err_and}
use Rattle.std.specs.Io.KnownBytes.{append_known}
use Rattle.commands.specs.inside.Progress.{Misses}
use Rattle.commands.proofs.script.answer_whole.Goals as goal

pub returns-in-Err-clause-ok : goal.returns-in-Err-clause-ok
returns-in-Err-clause-ok g c = tt

pub returns-in-Err-clause-err : goal.returns-in-Err-clause-err
returns-in-Err-clause-err g c = (refl, refl)

pub returns-in_err-tell_answer-clause-ok : goal.returns-in_err-tell_answer-clause-ok
returns-in_err-tell_answer-clause-ok g c =
    let p = err_from_is_err_and c.from_residual.result c.from_residual.ensures.1 in
    rw p.1 tt

pub returns-in_err-tell_answer-clause-err : goal.returns-in_err-tell_answer-clause-err
returns-in_err-tell_answer-clause-err g c =
    let w = g.W.Write.contents in
    let p = err_from_is_err_and c.from_residual.result c.from_residual.ensures.1 in
    let asked = c.answer_asked-answer in
    let missed = Misses g.G.TakesEvents.step c.args.binders.now asked.new.binders (append_known (w c.args.writer.now) c.args.waiting.now.waiting)
    (append_known (w c.tell_answer.new.writer) c.tell_answer.new.waiting.waiting) c.args.line.now in
    rw p.1 (subst missed (sym (p.2 ∙ c.in_err-tell_answer.ensures.err)) (asked.result, asked.ensures c.args.line.now c.in-Ok.ensures))

pub returns-clause-ok : goal.returns-clause-ok
returns-clause-ok g c =
    let asked = c.answer_asked-answer in
    let told = c.in_ok-tell_answer.ensures in
    (asked.result, asked.ensures c.args.line.now c.in-Ok.ensures, told.ok, c.is_refused.ensures, told.waits c.args.line.now c.in-Ok.ensures)

pub returns-clause-err : goal.returns-clause-err
returns-clause-err g c = tt
