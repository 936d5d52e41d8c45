use Rattle.std.proofs.Common.{◌≡◌, Option, List, ℕ, [], append-nil, subst, sym, ap, ◌∙◌, refl}
use Rattle.std.specs.Prelude.{◌⊎◌}
use Rattle.std.proofs.KnownBytes.{Appends-trans}
use Rattle.std.proofs.lemmas.Result.{err_from_is_err_and}
use Rattle.std.specs.Io.Buffered.{reader_remaining}
use Rattle.std.specs.Io.KnownBytes.{Appends, append_known}
use Rattle.commands.specs.Answer.{LineStep, MayWait, answer_text}
use Rattle.scripts.specs.Reading.{GotLine, Unread}
use Rattle.commands.specs.inside.Progress.{Answered, Misses, Place}
use Rattle.commands.specs.declared.answer.Answer.TheVariants.{CutLine}
use Rattle.scripts.specs.declared.fault.ScriptFault.TheVariants.{Read}
use Rattle.commands.specs.declared.summary.Summary.{Summary}
use Rattle.scripts.proofs.Lines.{stops_line}
use Rattle.commands.proofs.Scripts.{answered_none, answered_more, ends_cut, ends_here, breaks_cut, breaks_here}
use Rattle.program_parts.proofs.Sent.{nothing_waits}
use Rattle.commands.proofs.Sent.{told_none, held_told, off_reading, off_line, tells_on, ends_sent}
use Rattle.commands.proofs.script.run_lines.Goals as goal

abbrev place : Option (List ℕ) → Option (List ℕ) → Place
place unread written = record { unread = unread; written = written }

pub loop-init : goal.loop-init
loop-init g c =
    let unread = reader_remaining (λ r. g.R.Read.remaining r.now) c.args.pages.now in
    let held = g.W.Write.contents c.args.writer.now in
    let here = place unread held in
    let m : Summary = record { lines = 0; refused = 0 } in (
      c.args.writer.now,
      [],
      [],
      subst (λ k. Answered g.G.TakesEvents.step here (place unread k) c.args.binders.now c.args.binders.now m [] []) (sym (ap (append_known held) c.requires ∙ nothing_waits held))
          (answered_none g.G.TakesEvents.step here c.args.binders.now m refl refl),
      told_none held,
    )

pub returns-in_err-next_line-clause-ok : goal.returns-in_err-next_line-clause-ok
returns-in_err-next_line-clause-ok g c =
    let p = err_from_is_err_and c.from_residual.result c.from_residual.ensures.1 in
    rw p.1 tt

pub returns-in_err-next_line-clause-err : goal.returns-in_err-next_line-clause-err
returns-in_err-next_line-clause-err g c =
    let p = err_from_is_err_and c.from_residual.result c.from_residual.ensures.1 in
    let so = c.loop.invariant in
    let line = c.next_line.new.line.items in
    let rest = reader_remaining (λ r. g.R.Read.remaining r.now) in
    let held = append_known (g.W.Write.contents c.loop.writer) c.loop.waiting.waiting in
    let now = append_known (g.W.Write.contents c.next_line.new.writer) c.next_line.new.waiting.waiting in
    let failed = subst (Unread (rest c.loop.pages) (rest c.next_line.new.pages) held now line) (sym p.2) c.in_err-next_line.ensures.err in
    rw p.1 (off_reading g.W.Write.contents g.G.TakesEvents.step _ (place (rest c.loop.pages) held) _ _ _ so.0 so.1 so.2 so.3 so.4 (place (rest c.next_line.new.pages) now) line p.0 failed)

pub returns-in_err-refused-in-Whole-clause-ok : goal.returns-in_err-refused-in-Whole-clause-ok
returns-in_err-refused-in-Whole-clause-ok g c =
    let p = err_from_is_err_and c.from_residual-in_err-refused-in-Whole.result c.from_residual-in_err-refused-in-Whole.ensures.1 in
    rw p.1 tt

pub returns-in_err-refused-in-Whole-clause-err : goal.returns-in_err-refused-in-Whole-clause-err
returns-in_err-refused-in-Whole-clause-err g c =
    let p = err_from_is_err_and c.from_residual-in_err-refused-in-Whole.result c.from_residual-in_err-refused-in-Whole.ensures.1 in
    let so = c.loop.invariant in
    let line = c.next_line.new.line.items in
    let rest = reader_remaining (λ r. g.R.Read.remaining r.now) in
    let held = append_known (g.W.Write.contents c.loop.writer) c.loop.waiting.waiting in
    let mid = append_known (g.W.Write.contents c.next_line.new.writer) c.next_line.new.waiting.waiting in
    let now = append_known (g.W.Write.contents c.answer_whole.new.writer) c.answer_whole.new.waiting.waiting in
    let s = c.loop.binders in
    let s' = c.answer_whole.new.binders in
    let got = subst (GotLine (rest c.loop.pages) (rest c.next_line.new.pages) line) c.in-Whole.is c.in_ok-next_line.ensures.ok in
    let missed = subst (Misses g.G.TakesEvents.step s s' mid now line) (sym p.2)
    (subst (λ l. Misses g.G.TakesEvents.step s s' mid now l c.in_err-refused-in-Whole.field-0.0) c.deref.ensures.value c.in_err-refused-in-Whole.ensures.err) in
    rw p.1
    (off_line g.W.Write.contents g.G.TakesEvents.step _ (place (rest c.loop.pages) held) _ _ _ so.0 so.1 so.2 so.3 so.4
    (place (rest c.next_line.new.pages) mid)
    (place (rest c.next_line.new.pages) now) s' line p.0 got.0 got.1 c.in_ok-next_line.ensures.kept missed)

pub returns-in_err-put_answer-in-Cut-clause-ok : goal.returns-in_err-put_answer-in-Cut-clause-ok
returns-in_err-put_answer-in-Cut-clause-ok g c =
    let p = err_from_is_err_and c.from_residual-in_err-put_answer-in-Cut.result c.from_residual-in_err-put_answer-in-Cut.ensures.1 in
    rw p.1 tt

pub returns-in_err-put_answer-in-Cut-clause-err : goal.returns-in_err-put_answer-in-Cut-clause-err
returns-in_err-put_answer-in-Cut-clause-err g c =
    let p = err_from_is_err_and c.from_residual-in_err-put_answer-in-Cut.result c.from_residual-in_err-put_answer-in-Cut.ensures.1 in
    let so = c.loop.invariant in
    let line = c.next_line.new.line.items in
    let rest = reader_remaining (λ r. g.R.Read.remaining r.now) in
    let now = append_known (g.W.Write.contents c.put_answer.new.out) c.put_answer.new.waiting.waiting in
    let got = subst (GotLine (rest c.loop.pages) (rest c.next_line.new.pages) line) c.in-Cut.is c.in_ok-next_line.ensures.ok in
    rw p.1 (
      so.0,
      so.1,
      line,
      so.2,
      breaks_cut g.G.TakesEvents.step _ _ _ _ _ so.1 so.2 so.3 (place (rest c.next_line.new.pages) now) p.0 line (p.2 ∙ c.in_err-put_answer-in-Cut.ensures.err) got.1 (stops_line line got.2),
      held_told (g.W.Write.contents c.args.writer.now) (g.W.Write.contents so.0) so.1 so.2 so.4,
    )

pub returns-in-End-clause-ok : goal.returns-in-End-clause-ok
returns-in-End-clause-ok g c =
    let so = c.loop.invariant in
    let line = c.next_line.new.line.items in
    let rest = reader_remaining (λ r. g.R.Read.remaining r.now) in
    let before = g.W.Write.contents c.args.writer.now in
    let held = append_known (g.W.Write.contents c.loop.writer) c.loop.waiting.waiting in
    let now = append_known (g.W.Write.contents c.next_line.new.writer) c.next_line.new.waiting.waiting in
    let got = subst (GotLine (rest c.loop.pages) (rest c.next_line.new.pages) line) c.in-End.is c.in_ok-next_line.ensures.ok in (
      so.0,
      so.1,
      [],
      so.2,
      ends_sent g.G.TakesEvents.step _ _ _ so.1 [] so.2 _ now (λ text h. subst (Appends before now) (append-nil text) (Appends-trans before held now text [] h c.in_ok-next_line.ensures.kept))
          (ends_here g.G.TakesEvents.step _ _ _ _ _ so.1 so.2 so.3 got.0),
      so.4,
    )

pub returns-in-End-clause-err : goal.returns-in-End-clause-err
returns-in-End-clause-err g c = tt

pub returns-in-Cut-clause-ok : goal.returns-in-Cut-clause-ok
returns-in-Cut-clause-ok g c =
    let so = c.loop.invariant in
    let line = c.next_line.new.line.items in
    let rest = reader_remaining (λ r. g.R.Read.remaining r.now) in
    let held = append_known (g.W.Write.contents c.loop.writer) c.loop.waiting.waiting in
    let mid = append_known (g.W.Write.contents c.next_line.new.writer) c.next_line.new.waiting.waiting in
    let now = append_known (g.W.Write.contents c.put_answer.new.out) c.put_answer.new.waiting.waiting in
    let got = subst (GotLine (rest c.loop.pages) (rest c.next_line.new.pages) line) c.in-Cut.is c.in_ok-next_line.ensures.ok in (
      so.0,
      so.1,
      line,
      so.2,
      ends_cut g.G.TakesEvents.step _ _ _ _ _ so.1 so.2 so.3 now _ line got.0 got.2 got.3
          (Appends-trans held mid now [] (answer_text CutLine) c.in_ok-next_line.ensures.kept c.in_ok-put_answer-in-Cut.ensures.ok)
          c.count-in-Cut.ensures.lines c.count-in-Cut.ensures.refused,
      so.4,
    )

pub returns-in-Cut-clause-err : goal.returns-in-Cut-clause-err
returns-in-Cut-clause-err g c = tt

pub loop-preserved : goal.loop-preserved
loop-preserved g c =
    let so = c.loop.invariant in
    let line = c.next_line.new.line.items in
    let rest = reader_remaining (λ r. g.R.Read.remaining r.now) in
    let held = append_known (g.W.Write.contents c.loop.writer) c.loop.waiting.waiting in
    let mid = append_known (g.W.Write.contents c.next_line.new.writer) c.next_line.new.waiting.waiting in
    let waiting = c.answer_whole.new.waiting.waiting in
    let now = append_known (g.W.Write.contents c.answer_whole.new.writer) waiting in
    let got = subst (GotLine (rest c.loop.pages) (rest c.next_line.new.pages) line) c.in-Whole.is c.in_ok-next_line.ensures.ok in
    let ok = c.in_ok-refused-in-Whole.ensures.ok in
    let made = subst (λ l. LineStep g.G.TakesEvents.step c.loop.binders l ok.0 c.answer_whole.new.binders) c.deref.ensures.value ok.1 in
    let either = subst (λ l. (waiting ≡ []) ⊎ MayWait l ok.0) c.deref.ensures.value ok.4 in
    tells_on g.W.Write.contents g.G.TakesEvents.step _ _ _ (rest c.next_line.new.pages) _ so.0 c.answer_whole.new.writer waiting so.1 so.2 line ok.0 so.4
    (answered_more g.G.TakesEvents.step _ _ _ _ _ so.1 so.2 so.3
    (place (rest c.next_line.new.pages) now) _ _ line ok.0 c.in_ok-refused-in-Whole.refused got.0 got.1 made
    (Appends-trans held mid now [] (answer_text ok.0) c.in_ok-next_line.ensures.kept ok.2) ok.3 c.count.ensures.lines c.count.ensures.refused)
    either

pub returns-clause-ok : goal.returns-clause-ok
returns-clause-ok g c = tt

pub returns-clause-err : goal.returns-clause-err
returns-clause-err g c =
    let so = c.loop.invariant in
    (so.0, so.1, [], so.2, breaks_here g.G.TakesEvents.step _ _ _ _ _ so.1 so.2 so.3 Read, held_told (g.W.Write.contents c.args.writer.now) (g.W.Write.contents so.0) so.1 so.2 so.4)
