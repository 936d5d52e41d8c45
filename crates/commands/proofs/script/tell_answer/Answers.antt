use Rattle.std.proofs.Common.{ap, inl, inr, sym, ◌∙◌}
use Rattle.std.proofs.lemmas.Result.{err_from_is_err_and}
use Rattle.text_output.specs.Sends.{Buffered}
use Rattle.commands.specs.Answer.{answer_text}
use Rattle.commands.proofs.Sent.{sent_behind}
use Rattle.commands.proofs.script.tell_answer.Goals as goal

pub returns-in_err-put_answer-clause-ok : goal.returns-in_err-put_answer-clause-ok
returns-in_err-put_answer-clause-ok g c =
    let p = err_from_is_err_and c.from_residual.result c.from_residual.ensures.1 in
    rw p.1 tt

pub returns-in_err-put_answer-clause-waits : goal.returns-in_err-put_answer-clause-waits
returns-in_err-put_answer-clause-waits g c =
    let p = err_from_is_err_and c.from_residual.result c.from_residual.ensures.1 in
    rw p.1 tt

pub returns-in_err-put_answer-clause-err : goal.returns-in_err-put_answer-clause-err
returns-in_err-put_answer-clause-err g c =
    let p = err_from_is_err_and c.from_residual.result c.from_residual.ensures.1 in
    rw p.1 (p.2 ∙ c.in_err-put_answer.ensures.err)

pub returns-then-waits-clause-ok : goal.returns-then-waits-clause-ok
returns-then-waits-clause-ok g c = c.in_ok-put_answer.ensures.ok

pub returns-then-waits-clause-waits : goal.returns-then-waits-clause-waits
returns-then-waits-clause-waits g c line is = inr (sym (c.may_wait-waits.ensures line is) ∙ c.if-waits.true)

pub returns-then-waits-clause-err : goal.returns-then-waits-clause-err
returns-then-waits-clause-err g c = tt

pub returns-in_err-send-clause-ok : goal.returns-in_err-send-clause-ok
returns-in_err-send-clause-ok g c =
    let p = err_from_is_err_and c.from_residual-in_err-send.result c.from_residual-in_err-send.ensures.1 in
    rw p.1 tt

pub returns-in_err-send-clause-waits : goal.returns-in_err-send-clause-waits
returns-in_err-send-clause-waits g c =
    let p = err_from_is_err_and c.from_residual-in_err-send.result c.from_residual-in_err-send.ensures.1 in
    rw p.1 tt

pub returns-in_err-send-clause-err : goal.returns-in_err-send-clause-err
returns-in_err-send-clause-err g c =
    let p = err_from_is_err_and c.from_residual-in_err-send.result c.from_residual-in_err-send.ensures.1 in
    rw p.1 p.2

pub returns-clause-ok : goal.returns-clause-ok
returns-clause-ok g c =
    sent_behind (g.W.Write.contents c.args.writer.now) (g.W.Write.contents c.put_answer.new.out) (g.W.Write.contents c.send.new.out) _ _ _ (answer_text c.args.answer.now)
    c.in_ok-put_answer.ensures.ok c.in_ok-send.ensures.ok (ap (λ (b : Buffered). b.waiting) c.in_ok-send.ensures.sent)

pub returns-clause-waits : goal.returns-clause-waits
returns-clause-waits g c line is = inl (ap (λ (b : Buffered). b.waiting) c.in_ok-send.ensures.sent)

pub returns-clause-err : goal.returns-clause-err
returns-clause-err g c = tt
