use Rattle.std.proofs.Common.{ap, refl, sym, ◌∙◌}
use Rattle.std.specs.Option.{option_map}
use Rattle.std.specs.Io.KnownBytes.{append_known}
use Rattle.scripts.specs.Asked.{request_asked}
use Rattle.updates.proofs.Asked.{asked_line, commits_line, missed_line, other_line}
use Rattle.updates.proofs.lines.answer_line.Goals as goal

pub returns-then-commits-clause-ok : goal.returns-then-commits-clause-ok
returns-then-commits-clause-ok g c = ((commits_line c.args.line.now (sym c.asks_commit-commits.ensures ∙ c.if-commits.true), refl), refl)

pub returns-in-Err-clause-err : goal.returns-in-Err-clause-err
returns-in-Err-clause-err g c = (refl, refl)

pub returns-in-None-clause-ok : goal.returns-in-None-clause-ok
returns-in-None-clause-ok g c =
    ((other_line c.args.line.now (sym c.asks_commit-commits.ensures ∙ c.if-commits.false), sym c.in-Ok.ensures ∙ ap (option_map request_asked) c.in-None.is, refl), refl)

pub returns-in-Some-clause-ok : goal.returns-in-Some-clause-ok
returns-in-Some-clause-ok g c =
    let w = g.O.Write.contents in
    let asks = sym c.in-Ok.ensures ∙ ap (option_map request_asked) c.in-Some.is in
    asked_line g.D.Disk.facts c.args.update.now c.answer_asked.new.update c.args.line.now (request_asked c.in-Some.asked) asks
    (append_known (w c.args.output.now) c.args.waiting.now.waiting) (append_known (w c.answer_asked.new.output) c.answer_asked.new.waiting.waiting) c.answer_asked.result c.answer_asked.ensures.ok

pub returns-in-Some-clause-err : goal.returns-in-Some-clause-err
returns-in-Some-clause-err g c =
    let w = g.O.Write.contents in
    let asks = sym c.in-Ok.ensures ∙ ap (option_map request_asked) c.in-Some.is in
    missed_line g.D.Disk.facts c.args.update.now c.answer_asked.new.update c.args.line.now (request_asked c.in-Some.asked) asks
    (append_known (w c.args.output.now) c.args.waiting.now.waiting) (append_known (w c.answer_asked.new.output) c.answer_asked.new.waiting.waiting) c.answer_asked.result c.answer_asked.ensures.err
