use Rattle.std.proofs.Common.{inl, inr, refl, subst}
use Rattle.bindings.specs.Bindings.{bindings_text}
use Rattle.tool_commands.specs.Bindings.{SaysRefusal, bindings_status}
use Rattle.tool_parts.specs.Streams.{Streams, TellsOnly}
use Rattle.tool_commands.proofs.symbols.tell_placed.Goals as goal

pub returns-in-Ok : goal.returns-in-Ok
returns-in-Ok g c =
    let io : Streams = record {
      before = g.O.Write.contents c.args.output.now;
      after = g.O.Write.contents c.write_bindings.new.output;
      errors_before = g.E.Write.contents c.args.errors.now;
      errors_after = g.E.Write.contents c.write_bindings.new.errors;
    } in
    inl (c.in-Ok.ensures.room, subst (λ os. TellsOnly (bindings_status os) (bindings_text os) io c.write_bindings.result) c.in-Ok.ensures.ok c.write_bindings.ensures)

pub returns-in-Err : goal.returns-in-Err
returns-in-Err g c =
    let io : Streams = record {
      before = g.O.Write.contents c.args.output.now;
      after = g.O.Write.contents c.args.output.now;
      errors_before = g.E.Write.contents c.args.errors.now;
      errors_after = g.E.Write.contents c.say_refused.new.errors;
    } in
    inr (c.in-Err.refusal, c.in-Err.ensures.refused, subst (λ r. SaysRefusal r io c.say_refused.result) c.from.ensures (c.say_refused.ensures.status, refl, c.say_refused.ensures.said))
