use Rattle.std.proofs.Common.{inl, inr, refl}
use Rattle.tool_commands.proofs.on_file.ask.Goals as goal

pub returns-in-Ok : goal.returns-in-Ok
returns-in-Ok g c = inl (c.in-Ok.disk, c.run_request-status.result.1, c.in-Ok.ensures, c.run_request-status.ensures)

pub returns-in-Err : goal.returns-in-Err
returns-in-Err g c = inr (c.in-Err.fault, c.not_opened.ensures.status, refl, c.not_opened.ensures.said, c.in-Err.ensures)
