use Rattle.std.proofs.Common.{Ok, inl, inr}
use Rattle.registry.specs.Opening.{EndsOpening}
use Rattle.commands.proofs.Answering.{answered}
use Rattle.commands.proofs.request.run_request.Goals as goal

pub returns-in-Ok : goal.returns-in-Ok
returns-in-Ok g c =
    let is = c.in-Ok.ensures in
    let opened : EndsOpening g.D.Disk.facts c.args.disk (Ok c.in-Ok.registry) = record { opened = is.opening; on_any_disk = is.on_any_disk; all_calls = is.all_calls } in
    let said = c.answer-status.ensures in
    inl (said.0, answered g.D.Disk.facts c.args.disk c.into_disk.result c.in-Ok.registry c.answer-status.new.registry _ said.0 opened said.1 c.into_disk.ensures, said.2)

pub returns-in-Err : goal.returns-in-Err
returns-in-Err g c =
    let is = c.in-Err.ensures in
    inr (c.in-Err.refusal, record { opened = is.opening; on_any_disk = is.on_any_disk; all_calls = is.all_calls }, c.write_disk_answer.ensures)
