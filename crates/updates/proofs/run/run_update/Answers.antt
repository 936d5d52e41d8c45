use Rattle.std.proofs.Common.{inl, inr, refl}
use Rattle.program_parts.specs.Streams.{Streams}
use Rattle.updates.proofs.Moments.{is_run}
use Rattle.updates.proofs.run.run_update.Goals as goal

pub returns-in-Ok : goal.returns-in-Ok
returns-in-Ok g c =
    let e = c.in-Ok.ensures.opening in
    let ran = c.run_opened-status in
    let io : Streams = record {
      unread = g.I.Read.remaining c.args.input.now;
      before = g.O.Write.contents c.args.output.now;
      after = g.O.Write.contents ran.new.output;
      errors_before = g.E.Write.contents c.args.errors.now;
      errors_after = g.E.Write.contents ran.new.errors;
    } in
    inl (is_run g.D.Disk.facts g.O.Write.contents c.args.disk c.in-Ok.registry e (g.met.D.Disk.holds_now _) io ran.result.0 ran.result.1 c.into_disk.result c.into_disk.ensures ran.ensures)

pub returns-in-Err : goal.returns-in-Err
returns-in-Err g c = inr (c.in-Err.refusal, c.in-Err.ensures.opening, (c.say_refusal.ensures.status, refl, c.say_refusal.ensures.said))
