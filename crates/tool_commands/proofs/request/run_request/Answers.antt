use Rattle.std.proofs.Common.{inl, inr, refl}
use Rattle.tool_commands.proofs.Answering.{answered}
use Rattle.tool_commands.proofs.request.run_request.Goals as goal

pub returns-in-Ok : goal.returns-in-Ok
returns-in-Ok g c =
    let e = c.in-Ok.ensures.opening in
    let said = c.answer-status.ensures in
    inl (
      said.0,
      answered g.D.Disk.facts c.args.disk c.into_disk.result c.in-Ok.registry c.answer-status.new.registry _ said.0 e said.1 c.into_disk.ensures,
      said.2,
    )

pub returns-in-Err : goal.returns-in-Err
returns-in-Err g c = inr (c.in-Err.refusal, c.in-Err.ensures.opening, (c.say_refusal.ensures.status, refl, c.say_refusal.ensures.said))
