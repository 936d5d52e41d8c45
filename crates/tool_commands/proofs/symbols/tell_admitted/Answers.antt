use Rattle.std.proofs.Common.{inl, inr, refl}
use Rattle.image.proofs.Answering.{program-based}
use Rattle.tool_parts.specs.Streams.{Streams}
use Rattle.tool_commands.proofs.Known.{state-tells}
use Rattle.tool_commands.proofs.symbols.tell_admitted.Goals as goal

pub tell_found-requires : goal.tell_found-requires
tell_found-requires g c = program-based c.args.program.now c.args.base c.requires

pub returns-in-Ok : goal.returns-in-Ok
returns-in-Ok g c =
    let io : Streams = record {
      before = g.O.Write.contents c.args.output.now;
      after = g.O.Write.contents c.tell_found.new.output;
      errors_before = g.E.Write.contents c.args.errors.now;
      errors_after = g.E.Write.contents c.tell_found.new.errors;
    } in
    record {
      read = c.find_libraries.ensures.read;
      ends = λ s at. inr (
        c.requires,
        inr (
          (c.in-Ok.ensures.ok s at).are,
          c.in-Ok.ensures.all_calls s at,
          state-tells s c.args.program.now c.args.base c.in-Ok.found io c.tell_found.result (c.in-Ok.ensures.ok s at) c.tell_found.ensures,
        ),
      );
      told = inr (inr (c.in-Ok.found, c.in-Ok.ensures.calls, c.tell_found.ensures));
    }

pub returns-in-Err : goal.returns-in-Err
returns-in-Err g c =
    record {
      read = c.find_libraries.ensures.read;
      ends = λ s at. inr (c.requires, inl (c.in-Err.refusal, c.in-Err.ensures.refusals, c.in-Err.ensures.damaged s at, (c.say_refused.ensures.status, refl, c.say_refused.ensures.said)));
      told = inr (inl (c.in-Err.refusal, c.in-Err.ensures.refusals, (c.say_refused.ensures.status, refl, c.say_refused.ensures.said)));
    }
