use Rattle.std.proofs.Common.{inl, inr, refl}
use Rattle.tool_commands.proofs.symbols.run_bindings.Goals as goal

pub returns-in-Ok : goal.returns-in-Ok
returns-in-Ok g c =
    inl (record {
      old = c.in-Ok.registry;
      opened = c.in-Ok.ensures.opening;
      new = c.tell_program-status.new.registry;
      tells = c.tell_program-status.ensures;
      back = c.into_disk.ensures;
    })

pub returns-in-Err : goal.returns-in-Err
returns-in-Err g c = inr (c.in-Err.refusal, c.in-Err.ensures.opening, (c.say_refusal.ensures.status, refl, c.say_refusal.ensures.said))
