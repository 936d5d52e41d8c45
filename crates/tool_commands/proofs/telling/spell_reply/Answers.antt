use Rattle.std.proofs.Common.{codes, Some, ap}
use Rattle.std.specs.Io.KnownBytes.{append_known}
use Rattle.std.proofs.KnownBytes.{Appends-trans}
use Rattle.program_parts.specs.Reply.{reply_text}
use Rattle.tool_parts.specs.Said.{said_line}
use Rattle.program_parts.proofs.Sent.{sent}
use Rattle.tool_commands.proofs.telling.spell_reply.Goals as goal

pub returns : goal.returns
returns c =
    let text = reply_text c.args.reply.now in
    let old = Some c.args.line.now.items in
    let put = Some c.put_reply.new.out.items in
    let none = c.new-text.result.waiting in
    let start = append_known old none in
    let first = append_known (Some c.put.new.out.items) c.put.new.self.waiting in
    let second = append_known put c.put_reply.new.line.waiting in
    let all = Appends-trans start first second (codes "rlibreg-tool: ") text c.in_ok-put.ensures.ok c.in_ok-put_reply.ensures in
    sent c.send.result old put (Some c.send.new.out.items) none c.put_reply.new.line.waiting (said_line text) (ap (λ b. b.waiting) c.new-text.ensures) all c.send.ensures.ok
