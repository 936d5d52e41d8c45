use Rattle.std.proofs.Common.{◌∙◌, inl, inr, refl, sym}
use Rattle.std.specs.Prelude.{◌≢◌}
use Rattle.program_parts.specs.Streams.{Streams}
use Rattle.program_parts.specs.declared.status.Status.TheVariants.{BadWords, Failed}
use Rattle.tool_commands.specs.Form.{deed_of}
use Rattle.tool_commands.proofs.Outcomes.{deed_kind}
use Rattle.tool_commands.proofs.command.run_apart.Goals as goal

pub returns-in-Other-clause-ends : goal.returns-in-Other-clause-ends
returns-in-Other-clause-ends g c =
    let io : Streams = record {
      unread = g.I.Read.remaining c.args.input.now;
      before = g.O.Write.contents c.args.output.now;
      after = g.O.Write.contents c.run_asked.new.output;
      errors_before = g.E.Write.contents c.args.errors.now;
      errors_after = g.E.Write.contents c.run_asked.new.errors;
    } in
    ((deed_kind io c.run_asked.result g.O.Write.contents (deed_of c.args.asked.now.action) c.run_asked.ensures.ends).0, inl c.run_asked.ensures.ends)

failed_words : Failed ≢ BadWords
failed_words h = cc

pub returns-in-OtherStream-clause-ends : goal.returns-in-OtherStream-clause-ends
returns-in-OtherStream-clause-ends g c = ((λ is. failed_words (sym c.cannot_read.ensures ∙ is)), inr (c.cannot_read.ensures, refl))

pub returns-in-Errors-clause-ends : goal.returns-in-Errors-clause-ends
returns-in-Errors-clause-ends g c = (failed_words, inr (refl, refl))
