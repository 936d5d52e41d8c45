use Rattle.std.proofs.Common.{sym, subst}
use Rattle.std.specs.Prelude.{OnOk}
use Rattle.text_output.specs.Sends.{Sends}
use Rattle.executable.specs.Outcome.{executable_refusal_text}
use Rattle.executable.specs.declared.refusal.ExecutableRefusal.{ExecutableRefusal}
use Rattle.executable.proofs.line.put_executable_refusal.Goals as goal

pub returns-in-Initializers : goal.returns-in-Initializers
returns-in-Initializers g c =
    let w = g.W.Write.contents in
    let put = c.put_object in
    subst (λ (r : ExecutableRefusal). OnOk put.result (Sends (w c.args.out.now) c.args.line.now (w put.new.out) put.new.line (executable_refusal_text r))) (sym c.in-Initializers.is) put.ensures

pub returns-in-Finalizers : goal.returns-in-Finalizers
returns-in-Finalizers g c =
    let w = g.W.Write.contents in
    let put = c.put_object-in-Finalizers in
    subst (λ (r : ExecutableRefusal). OnOk put.result (Sends (w c.args.out.now) c.args.line.now (w put.new.out) put.new.line (executable_refusal_text r))) (sym c.in-Finalizers.is) put.ensures

pub returns-in-WritableCode : goal.returns-in-WritableCode
returns-in-WritableCode g c =
    let w = g.W.Write.contents in
    let put = c.put_object-in-WritableCode in
    subst (λ (r : ExecutableRefusal). OnOk put.result (Sends (w c.args.out.now) c.args.line.now (w put.new.out) put.new.line (executable_refusal_text r))) (sym c.in-WritableCode.is) put.ensures

pub returns-in-NoPages : goal.returns-in-NoPages
returns-in-NoPages g c =
    let w = g.W.Write.contents in
    let put = c.put-in-NoPages in
    subst (λ (r : ExecutableRefusal). OnOk put.result (Sends (w c.args.out.now) c.args.line.now (w put.new.out) put.new.self (executable_refusal_text r))) (sym c.in-NoPages.is) put.ensures.ok
