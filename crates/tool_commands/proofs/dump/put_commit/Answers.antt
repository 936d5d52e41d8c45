use Rattle.std.proofs.Common.{codes, sym, subst}
use Rattle.std.specs.Io.KnownBytes.{Appends, append_known}
use Rattle.std.proofs.KnownBytes.{Appends-nil}
use Rattle.tool_commands.specs.Dump.{commit_text}
use Rattle.program_parts.proofs.Sent.{ended}
use Rattle.tool_commands.proofs.dump.put_commit.Goals as goal

pub returns-in-Script : goal.returns-in-Script
returns-in-Script g c =
    let now = append_known (g.W.Write.contents c.args.out.now) c.args.script.now.waiting in
    subst (λ p. Appends now now (commit_text p)) (sym c.in-Script.is) (Appends-nil now)

pub returns-in_ok-put-in-Update : goal.returns-in_ok-put-in-Update
returns-in_ok-put-in-Update g c =
    let w = g.W.Write.contents in
    let start = append_known (w c.args.out.now) c.args.script.now.waiting in
    let now = append_known (w c.put.new.out) c.end_line.new.self.waiting in
    let put = ended start (w c.put.new.out) c.put.new.self.waiting c.end_line.new.self.waiting (codes "commit") c.in_ok-put-in-Update.ensures.ok c.end_line.ensures in
    subst (λ p. Appends start now (commit_text p)) (sym c.in-Update.is) put
