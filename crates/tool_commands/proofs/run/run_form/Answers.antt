use Rattle.std.proofs.Common.{inl, inr, sym, subst}
use Rattle.program_parts.specs.declared.status.Status.{Status}
use Rattle.tool_commands.specs.AnyDisk.{FormTells}
use Rattle.tool_commands.specs.Ends.{EndsUnopened, FormEnds, FormReads}
use Rattle.tool_commands.specs.Form.{question_of}
use Rattle.tool_parts.specs.Streams.{Streams}
use Rattle.tool_commands.proofs.run.run_form.Goals as goal

pub returns-in-Ok : goal.returns-in-Ok
returns-in-Ok g c =
    let io : Streams = record {
      before = g.O.Write.contents c.args.output.now;
      after = g.O.Write.contents c.run_opened-status.new.output;
      errors_before = g.E.Write.contents c.args.errors.now;
      errors_after = g.E.Write.contents c.run_opened-status.new.errors;
    } in
    let facts = g.D.Disk.facts in
    let store = c.in-Ok.contents in
    let opened = c.in-Ok.ensures in
    let did = c.run_opened-status.ensures in
    let back = sym c.into_disk.ensures in
    let status = c.run_opened-status.result in
    inl (record {
      store = store;
      opened = opened;
      read = c.run_opened-status.new.contents;
      only_read = did.read;
      calls = subst (λ d. FormReads (facts store.disk) (facts d) store.entries (question_of c.args.form.now)) back did.calls;
      back = c.into_disk.ensures;
      ends = λ s at. subst (λ d. FormEnds facts store d s (question_of c.args.form.now) io status) back (did.ends s at);
      told = subst (λ d. FormTells (facts store.disk) (facts d) (question_of c.args.form.now) io status) back did.told;
    })

pub returns-in-Err : goal.returns-in-Err
returns-in-Err g c =
    let ends = subst (λ (said : Status). EndsUnopened (question_of c.args.form.now) said (g.O.Write.contents c.args.output.now) (g.O.Write.contents c.end_unopened.new.output) c.end_unopened.result)
    c.say_refusal-said.ensures.status c.end_unopened.ensures in
    inr (c.in-Err.refusal, c.in-Err.ensures, ends, c.say_refusal-said.ensures.said)
