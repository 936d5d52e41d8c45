use Rattle.std.proofs.Common.{sym, subst}
use Rattle.std.specs.Prelude.{OnOk}
use Rattle.text_output.specs.Sends.{Sends}
use Rattle.contents.specs.declared.finding.Finding.{Finding}
use Rattle.tool_commands.specs.Check.{finding_line}
use Rattle.tool_commands.proofs.finding.put_finding.Goals as goal

pub returns-in-OtherName : goal.returns-in-OtherName
returns-in-OtherName g c =
    let w = g.W.Write.contents in
    let put = c.put_around in
    subst (λ (f : Finding). OnOk put.result (Sends (w c.args.out.now) c.args.line.now (w put.new.out) put.new.line (finding_line c.args.name.now c.args.length f))) (sym c.in-OtherName.is) put.ensures

pub returns-in-Unreadable : goal.returns-in-Unreadable
returns-in-Unreadable g c =
    let w = g.W.Write.contents in
    let put = c.put_around-in-Unreadable in
    subst (λ (f : Finding). OnOk put.result (Sends (w c.args.out.now) c.args.line.now (w put.new.out) put.new.line (finding_line c.args.name.now c.args.length f))) (sym c.in-Unreadable.is) put.ensures
