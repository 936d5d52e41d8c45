use Rattle.std.proofs.Common.{inl, inr, subst}
use Rattle.program_parts.specs.declared.status.Status.{Status}
use Rattle.tool_commands.specs.Ends.{EndsUnopened}
use Rattle.tool_commands.specs.Form.{question_of}
use Rattle.tool_commands.proofs.on_file.tell.Goals as goal

pub returns-in-Ok : goal.returns-in-Ok
returns-in-Ok g c = inl (c.in-Ok.disk, c.run_form-status.result.1, c.in-Ok.ensures, c.run_form-status.ensures)

pub returns-in-Err : goal.returns-in-Err
returns-in-Err g c =
    let ends = subst (λ (said : Status). EndsUnopened (question_of c.args.form.now) said (g.O.Write.contents c.args.output.now) (g.O.Write.contents c.end_unopened.new.output) c.end_unopened.result)
    c.not_opened-said.ensures.status c.end_unopened.ensures in
    inr (c.in-Err.fault, ends, c.not_opened-said.ensures.said, c.in-Err.ensures)
