use Rattle.std.proofs.Common.{codes}
use Rattle.std.specs.Io.KnownBytes.{append_known}
use Rattle.image.proofs.Then.{then}
use Rattle.tool_commands.specs.Check.{findings_text}
use Rattle.tool_commands.proofs.check.put_check.Goals as goal

pub returns : goal.returns
returns g c libraries lists =
    let w = g.W.Write.contents in
    let start = append_known (w c.args.out.now) c.args.line.now.waiting in
    let first = append_known (w c.put_findings.new.out) c.put_findings.new.line.waiting in
    then c.put.result start first _ (findings_text libraries c.args.findings.now) (codes "end\n") (c.in_ok-put_findings.ensures libraries lists) c.put.ensures.ok
