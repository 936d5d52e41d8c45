use Rattle.std.proofs.Common.{inl, inr, refl, subst, ap, ◌∙◌}
use Rattle.requests.specs.Request.{Request}
use Rattle.tool_commands.specs.Outcome.{AskEnds}
use Rattle.tool_parts.specs.Streams.{Streams}
use Rattle.tool_commands.specs.declared.telling.Telling.{Telling}
use Rattle.tool_commands.specs.inside.WithFile.{request_with}
use Rattle.tool_commands.proofs.on_file.ask_with.Goals as goal

pub returns-in-Ok : goal.returns-in-Ok
returns-in-Ok g c =
    let io : Streams = record {
      before = g.O.Write.contents c.args.output.now;
      after = g.O.Write.contents c.ask.new.output;
      errors_before = g.E.Write.contents c.args.errors.now;
      errors_after = g.E.Write.contents c.ask.new.errors;
    } in
    let asked = subst (λ (q : Request). AskEnds q c.telling.result io c.ask.result)
    (c.command-command.ensures ∙ ap (request_with c.args.asking) c.deref.ensures.value) c.ask.ensures in
    inl (c.in-Ok.bytes.items, c.in-Ok.ensures, subst (λ (t : Telling). AskEnds (request_with c.args.asking c.in-Ok.bytes.items) t io c.ask.result) c.telling.ensures asked)

pub returns-in-Err : goal.returns-in-Err
returns-in-Err g c = inr (c.in-Err.fault, c.not_read.ensures.status, refl, c.not_read.ensures.said)
