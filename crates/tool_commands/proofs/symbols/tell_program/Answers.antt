use Rattle.std.proofs.Common.{inl, refl, subst}
use Rattle.store.proofs.IsReadLemmas.{read_none}
use Rattle.tool_commands.specs.Bindings.{SaysRefusal, ToldBindings}
use Rattle.tool_parts.specs.Streams.{Streams}
use Rattle.tool_commands.proofs.symbols.tell_program.Goals as goal

pub returns-in-Ok : goal.returns-in-Ok
returns-in-Ok g c =
    let io : Streams = record {
      before = g.O.Write.contents c.args.output.now;
      after = g.O.Write.contents c.tell_admitted.new.output;
      errors_before = g.E.Write.contents c.args.errors.now;
      errors_after = g.E.Write.contents c.tell_admitted.new.errors;
    } in
    subst (λ p. ToldBindings g.D.Disk.facts c.args.registry.now c.tell_admitted.new.registry p c.args.base io c.tell_admitted.result) c.in-Ok.ensures.same c.tell_admitted.ensures

pub returns-in-Err : goal.returns-in-Err
returns-in-Err g c =
    let io : Streams = record {
      before = g.O.Write.contents c.args.output.now;
      after = g.O.Write.contents c.args.output.now;
      errors_before = g.E.Write.contents c.args.errors.now;
      errors_after = g.E.Write.contents c.say_refused.new.errors;
    } in
    let said = subst (λ r. SaysRefusal r io c.say_refused.result) c.from.ensures (c.say_refused.ensures.status, refl, c.say_refused.ensures.said) in
    record {
      read = read_none c.args.registry.now;
      ends = λ s at. inl (refl, (c.in-Err.refusal, c.in-Err.ensures.refused, said));
      told = inl (refl, (c.in-Err.refusal, c.in-Err.ensures.refused, said));
    }
