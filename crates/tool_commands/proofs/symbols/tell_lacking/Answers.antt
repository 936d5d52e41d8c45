use Rattle.std.proofs.Common.{inl, inr, refl, subst}
use Rattle.bindings.specs.Dependencies.{Found, dependencies_text}
use Rattle.program_parts.specs.declared.status.Status.TheVariants.{Refused}
use Rattle.scope.specs.LoadOrder.{available, names_of}
use Rattle.tool_parts.specs.Streams.{Streams, TellsOnly}
use Rattle.tool_commands.proofs.symbols.tell_lacking.Goals as goal

pub returns-in-Ok : goal.returns-in-Ok
returns-in-Ok g c =
    let io : Streams = record {
      before = g.O.Write.contents c.args.output.now;
      after = g.O.Write.contents c.write_dependencies.new.output;
      errors_before = g.E.Write.contents c.args.errors.now;
      errors_after = g.E.Write.contents c.write_dependencies.new.errors;
    } in
    inl (subst (λ (f : Found). TellsOnly Refused (dependencies_text (names_of f.libraries) (available f.program f.libraries)) io c.write_dependencies.result) c.in-Ok.ensures c.write_dependencies.ensures)

pub returns-in-Err : goal.returns-in-Err
returns-in-Err g c = inr (c.say_refusal.ensures.status, refl, c.say_refusal.ensures.said)
