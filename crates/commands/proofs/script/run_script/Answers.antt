use Rattle.std.proofs.Common.{Option, List, ℕ, refl, subst, sym}
use Rattle.std.proofs.lemmas.Result.{err_from_is_err_and, IfOk-weaker, IfErr-weaker}
use Rattle.std.specs.Io.Buffered.{reader_remaining}
use Rattle.std.specs.Io.KnownBytes.{append_known}
use Rattle.commands.specs.Script.{Streams, Finishes, Stops, StopsWriting}
use Rattle.scripts.specs.declared.fault.ScriptFault.TheVariants.{Write, OutOfMemory}
use Rattle.scripts.proofs.Pages.{unread_pages}
use Rattle.commands.proofs.Scripts.{breaks_none}
use Rattle.program_parts.proofs.Sent.{all_sent}
use Rattle.commands.proofs.Sent.{ends_sent, breaks_sent, breaks_writing, unsent}
use Rattle.commands.proofs.script.run_script.Goals as goal

abbrev streams : Option (List ℕ) → Option (List ℕ) → Option (List ℕ) → Streams
streams unread before after = record { unread = unread; before = before; after = after }

pub returns-in_default-clause-err : goal.returns-in_default-clause-err
returns-in_default-clause-err g c =
    breaks_none g.G.TakesEvents.step
    (record { unread = g.R.Read.remaining c.args.reader.now; written = g.W.Write.contents c.args.writer.now })
    c.args.binders.now OutOfMemory

pub returns-in_err-send-clause-err : goal.returns-in_err-send-clause-err
returns-in_err-send-clause-err g c =
    let p = err_from_is_err_and c.from_residual.result c.from_residual.ensures.1 in
    let step = g.G.TakesEvents.step in
    let before = g.W.Write.contents c.args.writer.now in
    let now = g.W.Write.contents c.send.new.out in
    let old = c.args.binders.now in
    let new = c.run_lines-ended.new.binders in
    let unread = unread_pages (λ r. g.R.Read.remaining r.now) c.in-Ok.pages _ 65536 c.in-Ok.ensures.inner c.in-Ok.ensures.empty c.in-Ok.ensures.capacity refl in
    let io = streams (reader_remaining (λ r. g.R.Read.remaining r.now) c.in-Ok.pages) before (append_known (g.W.Write.contents c.run_lines-ended.new.writer) c.run_lines-ended.new.waiting.waiting) in
    let stopped = unsent g.W.Write.contents step io old new c.run_lines-ended.result now c.run_lines-ended.ensures.ok c.run_lines-ended.ensures.err in
    let all = subst (λ u. Stops step (streams u before now) old new Write) unread (stopped.1.0, stopped.1.1, stopped.1.2, stopped.1.3) in
    rw p.1 (subst (Stops step (streams (g.R.Read.remaining c.args.reader.now) before now) old new) (sym p.2) all)

pub returns-in_err-send-clause-sent : goal.returns-in_err-send-clause-sent
returns-in_err-send-clause-sent g c =
    let p = err_from_is_err_and c.from_residual.result c.from_residual.ensures.1 in
    let step = g.G.TakesEvents.step in
    let before = g.W.Write.contents c.args.writer.now in
    let now = g.W.Write.contents c.send.new.out in
    let old = c.args.binders.now in
    let new = c.run_lines-ended.new.binders in
    let unread = unread_pages (λ r. g.R.Read.remaining r.now) c.in-Ok.pages _ 65536 c.in-Ok.ensures.inner c.in-Ok.ensures.empty c.in-Ok.ensures.capacity refl in
    let io = streams (reader_remaining (λ r. g.R.Read.remaining r.now) c.in-Ok.pages) before (append_known (g.W.Write.contents c.run_lines-ended.new.writer) c.run_lines-ended.new.waiting.waiting) in
    let stopped = unsent g.W.Write.contents step io old new c.run_lines-ended.result now c.run_lines-ended.ensures.ok c.run_lines-ended.ensures.err in
    rw p.1 (λ is. (stopped.0, subst (λ u. StopsWriting step (streams u before now) old new (g.W.Write.contents stopped.0)) unread stopped.1))

pub returns-clause-ok : goal.returns-clause-ok
returns-clause-ok g c =
    let step = g.G.TakesEvents.step in
    let before = g.W.Write.contents c.args.writer.now in
    let held = g.W.Write.contents c.run_lines-ended.new.writer in
    let now = g.W.Write.contents c.send.new.out in
    let old = c.args.binders.now in
    let new = c.run_lines-ended.new.binders in
    let unread = unread_pages (λ r. g.R.Read.remaining r.now) c.in-Ok.pages _ 65536 c.in-Ok.ensures.inner c.in-Ok.ensures.empty c.in-Ok.ensures.capacity refl in
    IfOk-weaker c.run_lines-ended.result _ _
    (λ summary h. subst (λ u. Finishes step (streams u before now) old new summary) unread
    (h.1, h.2, h.3, ends_sent step _ _ _ h.1 h.2 h.3 summary now (λ text sent. all_sent before held now _ text sent c.in_ok-send.ensures.ok) h.4))
    c.run_lines-ended.ensures.ok

pub returns-clause-err : goal.returns-clause-err
returns-clause-err g c =
    let step = g.G.TakesEvents.step in
    let before = g.W.Write.contents c.args.writer.now in
    let held = g.W.Write.contents c.run_lines-ended.new.writer in
    let now = g.W.Write.contents c.send.new.out in
    let old = c.args.binders.now in
    let new = c.run_lines-ended.new.binders in
    let unread = unread_pages (λ r. g.R.Read.remaining r.now) c.in-Ok.pages _ 65536 c.in-Ok.ensures.inner c.in-Ok.ensures.empty c.in-Ok.ensures.capacity refl in
    IfErr-weaker c.run_lines-ended.result _ _
    (λ fault h. subst (λ u. Stops step (streams u before now) old new fault) unread
    (h.1, h.2, h.3, breaks_sent step _ _ _ h.1 h.2 h.3 fault now (λ text sent. all_sent before held now _ text sent c.in_ok-send.ensures.ok) h.4))
    c.run_lines-ended.ensures.err

pub returns-clause-sent : goal.returns-clause-sent
returns-clause-sent g c =
    let step = g.G.TakesEvents.step in
    let before = g.W.Write.contents c.args.writer.now in
    let now = g.W.Write.contents c.send.new.out in
    let old = c.args.binders.now in
    let new = c.run_lines-ended.new.binders in
    let unread = unread_pages (λ r. g.R.Read.remaining r.now) c.in-Ok.pages _ 65536 c.in-Ok.ensures.inner c.in-Ok.ensures.empty c.in-Ok.ensures.capacity refl in
    IfErr-weaker c.run_lines-ended.result _ _
    (λ fault h is. (
      h.0,
      subst (λ u. StopsWriting step (streams u before now) old new (g.W.Write.contents h.0)) unread
          (h.1, h.2, h.3, breaks_writing step _ _ _ h.1 h.2 h.3 fault now h.4, h.5),
    ))
    c.run_lines-ended.ensures.err
