use Rattle.std.proofs.Common.{Option, List, ℕ}
use Rattle.std.proofs.lemmas.Result.{IfOk-weaker, IfErr-weaker}
use Rattle.commands.specs.DiskScript.{FinishesOnDisk, StopsOnDisk}
use Rattle.commands.specs.Script.{Streams}
use Rattle.commands.proofs.ScriptRuns.{finishes_on_disk, stops_on_disk}
use Rattle.commands.proofs.disk_script.run_script_on_disk.Goals as goal

abbrev streams : Option (List ℕ) → Option (List ℕ) → Option (List ℕ) → Streams
streams unread before after = record { unread = unread; before = before; after = after }

pub returns-clause-ok : goal.returns-clause-ok
returns-clause-ok g c =
    let facts = g.D.Disk.facts in
    let io : Streams = streams (g.R.Read.remaining c.args.reader.now) (g.W.Write.contents c.args.writer.now) (g.W.Write.contents c.run_script.new.writer) in
    let old = c.args.binders.now in
    let new = c.run_script.new.binders in
    IfOk-weaker c.run_script.result _ (FinishesOnDisk facts io old new) (λ summary. finishes_on_disk facts io old new summary) c.run_script.ensures.ok

pub returns-clause-err : goal.returns-clause-err
returns-clause-err g c =
    let facts = g.D.Disk.facts in
    let io : Streams = streams (g.R.Read.remaining c.args.reader.now) (g.W.Write.contents c.args.writer.now) (g.W.Write.contents c.run_script.new.writer) in
    let old = c.args.binders.now in
    let new = c.run_script.new.binders in
    IfErr-weaker c.run_script.result _ (StopsOnDisk facts io old new) (λ fault. stops_on_disk facts io old new fault) c.run_script.ensures.err
