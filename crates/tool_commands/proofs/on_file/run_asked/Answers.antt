use Rattle.std.proofs.Common.{sym, ap, subst, ◌∙◌}
use Rattle.std.proofs.lemmas.Bool.{false≢true}
use Rattle.requests.specs.Request as request
use Rattle.tool_commands.specs.Form.{deed_of, reads_input}
use Rattle.tool_commands.specs.Outcome.{AskEnds}
use Rattle.tool_parts.specs.Streams.{Streams}
use Rattle.tool_commands.specs.declared.telling.Telling.TheVariants.{Text}
use Rattle.tool_commands.proofs.on_file.run_asked.Goals as goal

pub returns-in-Tell-clause-ends : goal.returns-in-Tell-clause-ends
returns-in-Tell-clause-ends g c = rw c.in-Tell.is c.tell.ensures

pub returns-in-Replace-clause-ends : goal.returns-in-Replace-clause-ends
returns-in-Replace-clause-ends g c = rw c.in-Replace.is c.ask_with.ensures

pub returns-in-Remove-clause-ends : goal.returns-in-Remove-clause-ends
returns-in-Remove-clause-ends g c =
    let io : Streams = record {
      before = g.O.Write.contents c.args.output.now;
      after = g.O.Write.contents c.ask.new.output;
      errors_before = g.E.Write.contents c.args.errors.now;
      errors_after = g.E.Write.contents c.ask.new.errors;
    } in
    rw c.in-Remove.is (subst (λ n. AskEnds (request.remove n) Text io c.ask.result) c.as_bytes.ensures.value c.ask.ensures)

pub returns-in-Update-clause-ends : goal.returns-in-Update-clause-ends
returns-in-Update-clause-ends g c = rw c.in-Update.is c.update.ensures

pub returns-in-Update-clause-unread : goal.returns-in-Update-clause-unread
returns-in-Update-clause-unread g c none = absurd (false≢true (sym none ∙ ap (λ a. reads_input (deed_of a)) c.in-Update.is))

pub returns-in-Executable-clause-ends : goal.returns-in-Executable-clause-ends
returns-in-Executable-clause-ends g c = rw c.in-Executable.is c.ask_with-in-Executable.ensures

pub returns-in-Bindings-clause-ends : goal.returns-in-Bindings-clause-ends
returns-in-Bindings-clause-ends g c = rw c.in-Bindings.is c.tell_file_bindings.ensures
