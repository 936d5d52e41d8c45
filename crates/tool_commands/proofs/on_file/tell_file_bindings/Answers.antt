use Rattle.std.proofs.Common.{inl, inr, refl, subst}
use Rattle.tool_commands.specs.Outcome.{BindingsAskEnds}
use Rattle.tool_parts.specs.Streams.{Streams}
use Rattle.tool_commands.proofs.on_file.tell_file_bindings.Goals as goal

pub returns-in-Ok : goal.returns-in-Ok
returns-in-Ok g c =
    let io : Streams = record {
      before = g.O.Write.contents c.args.output.now;
      after = g.O.Write.contents c.tell_bindings.new.output;
      errors_before = g.E.Write.contents c.args.errors.now;
      errors_after = g.E.Write.contents c.tell_bindings.new.errors;
    } in
    inl (c.in-Ok.bytes.items, c.in-Ok.ensures, subst (λ b. BindingsAskEnds b c.args.base io c.tell_bindings.result) c.deref.ensures.value c.tell_bindings.ensures)

pub returns-in-Err : goal.returns-in-Err
returns-in-Err g c = inr (c.in-Err.fault, c.not_read.ensures.status, refl, c.not_read.ensures.said)
