use Rattle.std.proofs.Common.{◌++◌, codes}
use Rattle.std.specs.Io.KnownBytes.{append_known}
use Rattle.std.proofs.KnownBytes.{Appends-trans}
use Rattle.text_output.specs.Name.{name_text}
use Rattle.image.proofs.Then.{then}
use Rattle.program_parts.proofs.bind_refusal.put_named.Goals as goal

pub returns-clause-ok : goal.returns-clause-ok
returns-clause-ok g c =
    let w = g.W.Write.contents in
    let head = c.args.head.now in
    let one = name_text c.args.first.now in
    let two = name_text c.args.second.now in
    let start = append_known (w c.args.out.now) c.args.line.now.waiting in
    let first = append_known (w c.put.new.out) c.put.new.self.waiting in
    let second = append_known (w c.put_name.new.out) c.put_name.new.self.waiting in
    let third = append_known (w c.put-2.new.out) c.put-2.new.self.waiting in
    let fourth = append_known (w c.put_name-2.new.out) c.put_name-2.new.self.waiting in
    let a = Appends-trans start first second head one c.in_ok-put.ensures.ok c.in_ok-put_name.ensures.ok in
    let b = Appends-trans start second third (head ++ one) (codes " ") a c.in_ok-put-2.ensures.ok in
    let d = Appends-trans start third fourth (head ++ one ++ codes " ") two b c.in_ok-put_name-2.ensures.ok in
    then c.put-3.result start fourth _ (head ++ one ++ codes " " ++ two) (codes "\n") d c.put-3.ensures.ok
