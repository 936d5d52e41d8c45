use Rattle.std.proofs.Common.{Ok, Err, refl}
use Rattle.commands.proofs.making.run_format.Goals as goal

pub returns-in-Ok : goal.returns-in-Ok
returns-in-Ok g c = (Ok c.in-Ok.registry, record { made = c.in-Ok.ensures.making; on_any_disk = c.in-Ok.ensures.on_any_disk }, refl, c.into_disk.ensures)

pub returns-in-Err : goal.returns-in-Err
returns-in-Err g c = (Err (c.in-Err.refusal, c.in-Err.disk), record { made = c.in-Err.ensures.making; on_any_disk = c.in-Err.ensures.on_any_disk }, refl, refl)
