use Rattle.std.proofs.Common.{ap, inl, inr, ◌∙◌}
use Rattle.binders.specs.EventsRan.{EventStep}
use Rattle.commands.specs.Script.{Streams}
use Rattle.commands.specs.Status.{greatest}
use Rattle.commands.proofs.ScriptRuns.{runs_on_disk, breaks_on_disk}
use Rattle.commands.proofs.Seen.{runs_through, ends_early}
use Rattle.commands.proofs.script_on_disk.run_watched.Goals as goal

pub returns-in-Ok-clause-run : goal.returns-in-Ok-clause-run
returns-in-Ok-clause-run g c =
    let io : Streams = record { unread = g.I.Read.remaining c.args.input.now; before = g.O.Write.contents c.args.output.now; after = g.O.Write.contents c.run_script.new.writer } in
    let old = c.args.watched.now in
    let new = c.run_script.new.binders in
    inl
    (runs_on_disk g.D.Disk.facts io old.binders new.binders new.worst c.greatest.result c.in-Ok.summary
    (runs_through (EventStep g.D.Disk.facts) io old new c.in-Ok.summary c.requires c.in-Ok.ensures.ok) (c.greatest.ensures ∙ ap (greatest new.worst) c.lines_status.ensures))

pub returns-in-Err-clause-run : goal.returns-in-Err-clause-run
returns-in-Err-clause-run g c =
    let io : Streams = record { unread = g.I.Read.remaining c.args.input.now; before = g.O.Write.contents c.args.output.now; after = g.O.Write.contents c.run_script.new.writer } in
    let old = c.args.watched.now in
    let new = c.run_script.new.binders in
    inr
    (breaks_on_disk g.D.Disk.facts io old.binders new.binders new.worst c.greatest-in-Err.result c.in-Err.fault
    (ends_early (EventStep g.D.Disk.facts) io old new c.in-Err.fault c.requires c.in-Err.ensures.err) (c.greatest-in-Err.ensures ∙ ap (greatest new.worst) c.fault_status.ensures))
