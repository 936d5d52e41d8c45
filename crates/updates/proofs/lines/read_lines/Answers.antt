use Rattle.std.proofs.Common.{ℕ, List, None, Some, sym, subst}
use Rattle.std.proofs.lemmas.Result.{err_from_is_err_and}
use Rattle.std.specs.Io.Buffered.{reader_remaining}
use Rattle.std.specs.Io.KnownBytes.{append_known}
use Rattle.scripts.specs.Reading.{GotLine, Unread}
use Rattle.updates.specs.inside.Line.{LineEnds, MissesLine}
use Rattle.updates.proofs.Answered.{answered_line, answered_none, broken_here, broken_line, broken_reading, ended_cut, ended_here, ended_line}
use Rattle.updates.proofs.lines.read_lines.Goals as goal

pub loop-init : goal.loop-init
loop-init g c =
    answered_none g.D.Disk.facts (reader_remaining (λ r. g.I.Read.remaining r.now) c.args.pages.now) (append_known (g.O.Write.contents c.args.output.now) c.args.waiting.now.waiting) c.args.update.now

pub returns-in_err-next_line-clause-ok : goal.returns-in_err-next_line-clause-ok
returns-in_err-next_line-clause-ok g c =
    let p = err_from_is_err_and c.from_residual.result c.from_residual.ensures.1 in
    rw p.1 tt

pub returns-in_err-next_line-clause-err : goal.returns-in_err-next_line-clause-err
returns-in_err-next_line-clause-err g c =
    let p = err_from_is_err_and c.from_residual.result c.from_residual.ensures.1 in
    let line = c.next_line.new.line.items in
    let rest = reader_remaining (λ r. g.I.Read.remaining r.now) in
    let held = append_known (g.O.Write.contents c.loop.output) c.loop.waiting.waiting in
    let now = append_known (g.O.Write.contents c.next_line.new.writer) c.next_line.new.waiting.waiting in
    let failed = subst (Unread (rest c.loop.pages) (rest c.next_line.new.pages) held now line) (sym p.2) c.in_err-next_line.ensures.err in
    rw p.1 (broken_reading g.D.Disk.facts _ (rest c.loop.pages) _ held _ c.loop.update c.loop.invariant (rest c.next_line.new.pages) now line p.0 failed)

pub returns-in_err-ending-in-Whole-clause-ok : goal.returns-in_err-ending-in-Whole-clause-ok
returns-in_err-ending-in-Whole-clause-ok g c =
    let p = err_from_is_err_and c.from_residual-in_err-ending-in-Whole.result c.from_residual-in_err-ending-in-Whole.ensures.1 in
    rw p.1 tt

pub returns-in_err-ending-in-Whole-clause-err : goal.returns-in_err-ending-in-Whole-clause-err
returns-in_err-ending-in-Whole-clause-err g c =
    let p = err_from_is_err_and c.from_residual-in_err-ending-in-Whole.result c.from_residual-in_err-ending-in-Whole.ensures.1 in
    let line = c.next_line.new.line.items in
    let rest = reader_remaining (λ r. g.I.Read.remaining r.now) in
    let held = append_known (g.O.Write.contents c.loop.output) c.loop.waiting.waiting in
    let mid = append_known (g.O.Write.contents c.next_line.new.writer) c.next_line.new.waiting.waiting in
    let now = append_known (g.O.Write.contents c.answer_line.new.output) c.answer_line.new.waiting.waiting in
    let got = subst (GotLine (rest c.loop.pages) (rest c.next_line.new.pages) line) c.in-Whole.is c.in_ok-next_line.ensures.ok in
    let missed = subst (MissesLine g.D.Disk.facts c.loop.update c.answer_line.new.update line mid now) (sym p.2)
    (subst (λ (l : List ℕ). MissesLine g.D.Disk.facts c.loop.update c.answer_line.new.update l mid now c.in_err-ending-in-Whole.field-0.0) c.deref.ensures.value c.in_err-ending-in-Whole.ensures.err) in
    rw p.1
    (broken_line g.D.Disk.facts _ (rest c.loop.pages) _ held _ c.loop.update c.loop.invariant (rest c.next_line.new.pages) mid line got.0 got.1 c.in_ok-next_line.ensures.kept c.answer_line.new.update now p.0 missed)

pub returns-in-Some-clause-ok : goal.returns-in-Some-clause-ok
returns-in-Some-clause-ok g c =
    let line = c.next_line.new.line.items in
    let rest = reader_remaining (λ r. g.I.Read.remaining r.now) in
    let held = append_known (g.O.Write.contents c.loop.output) c.loop.waiting.waiting in
    let mid = append_known (g.O.Write.contents c.next_line.new.writer) c.next_line.new.waiting.waiting in
    let now = append_known (g.O.Write.contents c.answer_line.new.output) c.answer_line.new.waiting.waiting in
    let got = subst (GotLine (rest c.loop.pages) (rest c.next_line.new.pages) line) c.in-Whole.is c.in_ok-next_line.ensures.ok in
    let ends = subst (λ (l : List ℕ). LineEnds g.D.Disk.facts c.loop.update c.answer_line.new.update l mid now (Some c.in-Some.ending)) c.deref.ensures.value (rw c.in-Some.is at c.in_ok-ending-in-Whole.ensures.ok) in
    ended_line g.D.Disk.facts _ (rest c.loop.pages) _ held _ c.loop.update c.loop.invariant (rest c.next_line.new.pages) mid line got.0 got.1 c.in_ok-next_line.ensures.kept c.answer_line.new.update now
    c.in-Some.ending ends

pub returns-in-Cut-clause-ok : goal.returns-in-Cut-clause-ok
returns-in-Cut-clause-ok g c =
    let line = c.next_line.new.line.items in
    let rest = reader_remaining (λ r. g.I.Read.remaining r.now) in
    let held = append_known (g.O.Write.contents c.loop.output) c.loop.waiting.waiting in
    let mid = append_known (g.O.Write.contents c.next_line.new.writer) c.next_line.new.waiting.waiting in
    let got = subst (GotLine (rest c.loop.pages) (rest c.next_line.new.pages) line) c.in-Cut.is c.in_ok-next_line.ensures.ok in
    ended_cut g.D.Disk.facts _ (rest c.loop.pages) _ held _ c.loop.update c.loop.invariant mid line got.0 got.2 got.3 c.in_ok-next_line.ensures.kept

pub returns-in-End-clause-ok : goal.returns-in-End-clause-ok
returns-in-End-clause-ok g c =
    let line = c.next_line.new.line.items in
    let rest = reader_remaining (λ r. g.I.Read.remaining r.now) in
    let held = append_known (g.O.Write.contents c.loop.output) c.loop.waiting.waiting in
    let mid = append_known (g.O.Write.contents c.next_line.new.writer) c.next_line.new.waiting.waiting in
    let got = subst (GotLine (rest c.loop.pages) (rest c.next_line.new.pages) line) c.in-End.is c.in_ok-next_line.ensures.ok in
    ended_here g.D.Disk.facts _ (rest c.loop.pages) _ held _ c.loop.update c.loop.invariant mid got.0 c.in_ok-next_line.ensures.kept

pub loop-preserved : goal.loop-preserved
loop-preserved g c =
    let line = c.next_line.new.line.items in
    let rest = reader_remaining (λ r. g.I.Read.remaining r.now) in
    let held = append_known (g.O.Write.contents c.loop.output) c.loop.waiting.waiting in
    let mid = append_known (g.O.Write.contents c.next_line.new.writer) c.next_line.new.waiting.waiting in
    let now = append_known (g.O.Write.contents c.answer_line.new.output) c.answer_line.new.waiting.waiting in
    let got = subst (GotLine (rest c.loop.pages) (rest c.next_line.new.pages) line) c.in-Whole.is c.in_ok-next_line.ensures.ok in
    let ends = subst (λ (l : List ℕ). LineEnds g.D.Disk.facts c.loop.update c.answer_line.new.update l mid now None) c.deref.ensures.value (rw c.in_default.is at c.in_ok-ending-in-Whole.ensures.ok) in
    answered_line g.D.Disk.facts _ (rest c.loop.pages) _ held _ c.loop.update c.loop.invariant (rest c.next_line.new.pages) mid line got.0 got.1 c.in_ok-next_line.ensures.kept c.answer_line.new.update now ends

pub returns-clause-err : goal.returns-clause-err
returns-clause-err g c =
    broken_here g.D.Disk.facts _ (reader_remaining (λ r. g.I.Read.remaining r.now) c.loop.pages) _ (append_known (g.O.Write.contents c.loop.output) c.loop.waiting.waiting) _ c.loop.update c.loop.invariant
