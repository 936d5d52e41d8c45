use Rattle.std.proofs.Common.{ap}
use Rattle.tool_commands.specs.Check.{check_text}
use Rattle.program_parts.proofs.Sent.{sent}
use Rattle.tool_commands.proofs.check.write_findings.Goals as goal

pub returns : goal.returns
returns g c libraries lists =
    let w = g.W.Write.contents in
    sent c.send.result (w c.args.out.now) (w c.put_check.new.out) (w c.send.new.out) c.new-line.result.waiting c.put_check.new.line.waiting (check_text libraries c.args.findings.now)
    (ap (λ b. b.waiting) c.new-line.ensures) (c.in_ok-put_check.ensures libraries lists) c.send.ensures.ok
