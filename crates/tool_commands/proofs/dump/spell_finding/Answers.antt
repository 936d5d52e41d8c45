use Rattle.std.proofs.Common.{codes, Some, ap}
use Rattle.std.specs.Io.KnownBytes.{append_known}
use Rattle.std.proofs.KnownBytes.{Appends-trans}
use Rattle.tool_commands.specs.Check.{finding_line}
use Rattle.tool_parts.specs.Said.{said_line}
use Rattle.program_parts.proofs.Sent.{sent}
use Rattle.tool_commands.proofs.dump.spell_finding.Goals as goal

pub returns : goal.returns
returns c =
    let text = finding_line c.args.name.now c.args.length c.args.finding in
    let old = Some c.args.spelt.now.items in
    let put = Some c.put_finding.new.out.items in
    let none = c.new-line.result.waiting in
    let start = append_known old none in
    let first = append_known (Some c.put.new.out.items) c.put.new.self.waiting in
    let second = append_known put c.put_finding.new.line.waiting in
    let all = Appends-trans start first second (codes "rlibreg-tool: ") text c.in_ok-put.ensures.ok c.in_ok-put_finding.ensures in
    sent c.send.result old put (Some c.send.new.out.items) none c.put_finding.new.line.waiting (said_line text) (ap (λ b. b.waiting) c.new-line.ensures) all c.send.ensures.ok
