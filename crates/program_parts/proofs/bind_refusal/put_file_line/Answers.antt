use Rattle.std.proofs.Common.{◌++◌, codes}
use Rattle.std.specs.Io.KnownBytes.{append_known}
use Rattle.std.proofs.KnownBytes.{Appends-trans}
use Rattle.program_parts.specs.Refusal.{file_refusal_text}
use Rattle.image.proofs.Then.{then}
use Rattle.program_parts.proofs.bind_refusal.put_file_line.Goals as goal

pub returns-clause-ok : goal.returns-clause-ok
returns-clause-ok g c =
    let w = g.W.Write.contents in
    let front = c.args.front.now in
    let text = file_refusal_text c.args.refusal in
    let start = append_known (w c.args.out.now) c.args.line.now.waiting in
    let first = append_known (w c.put.new.out) c.put.new.self.waiting in
    let second = append_known (w c.put_file_refusal.new.out) c.put_file_refusal.new.line.waiting in
    let whole = Appends-trans start first second front text c.in_ok-put.ensures.ok c.in_ok-put_file_refusal.ensures.ok in
    then c.put-2.result start second _ (front ++ text) (codes "\n") whole c.put-2.ensures.ok
