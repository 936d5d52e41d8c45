use Rattle.std.proofs.Common.{◌≡◌, ap, inl, ◌∙◌}
use Rattle.std.proofs.lemmas.Result.{err_from_is_err_and, IfErr-weaker, IfOk-weaker}
use Rattle.std.specs.Io.Buffered.{reader_remaining}
use Rattle.std.specs.Io.KnownBytes.{append_known}
use Rattle.text_output.specs.Sends.{Buffered}
use Rattle.program_parts.proofs.Sent.{nothing_waits}
use Rattle.updates.proofs.Sent.{broken_sent, ended_sent, not_sent}
use Rattle.updates.proofs.lines.answer_lines.Goals as goal

pub returns-in_err-send-clause-ok : goal.returns-in_err-send-clause-ok
returns-in_err-send-clause-ok g c =
    let p = err_from_is_err_and c.from_residual.result c.from_residual.ensures.1 in
    rw p.1 tt

pub returns-in_err-send-clause-err : goal.returns-in_err-send-clause-err
returns-in_err-send-clause-err g c =
    let p = err_from_is_err_and c.from_residual.result c.from_residual.ensures.1 in
    let w = g.O.Write.contents in
    let read = c.read_lines-ended in
    rw p.1
    (not_sent g.D.Disk.facts (reader_remaining (λ r. g.I.Read.remaining r.now) c.args.pages.now) (w c.args.output.now) c.args.update.now read.new.update
    (append_known (w c.args.output.now) c.new-waiting.result.waiting) (append_known (w read.new.output) read.new.waiting.waiting) (w c.send.new.out) read.result p.0 p.2 read.ensures.ok read.ensures.err)

pub returns-clause-ok : goal.returns-clause-ok
returns-clause-ok g c =
    let w = g.O.Write.contents in
    let before = w c.args.output.now in
    let read = c.read_lines-ended in
    let start : append_known before c.new-waiting.result.waiting ≡ before = ap (append_known before) (ap (λ (b : Buffered). b.waiting) c.new-waiting.ensures) ∙ nothing_waits before in
    IfOk-weaker read.result _ _
    (ended_sent g.D.Disk.facts (reader_remaining (λ r. g.I.Read.remaining r.now) c.args.pages.now) before c.args.update.now read.new.update _ (w read.new.output) (w c.send.new.out) read.new.waiting.waiting
    start c.in_ok-send.ensures.ok)
    read.ensures.ok

pub returns-clause-err : goal.returns-clause-err
returns-clause-err g c =
    let w = g.O.Write.contents in
    let before = w c.args.output.now in
    let read = c.read_lines-ended in
    let start : append_known before c.new-waiting.result.waiting ≡ before = ap (append_known before) (ap (λ (b : Buffered). b.waiting) c.new-waiting.ensures) ∙ nothing_waits before in
    IfErr-weaker read.result _ _
    (λ fault so. inl (broken_sent g.D.Disk.facts (reader_remaining (λ r. g.I.Read.remaining r.now) c.args.pages.now) before c.args.update.now read.new.update _ (w read.new.output) (w c.send.new.out)
    read.new.waiting.waiting start c.in_ok-send.ensures.ok fault so))
    read.ensures.err
