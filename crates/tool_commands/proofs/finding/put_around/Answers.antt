use Rattle.std.proofs.Common.{◌++◌}
use Rattle.std.specs.Io.KnownBytes.{append_known}
use Rattle.std.proofs.KnownBytes.{Appends-trans}
use Rattle.text_output.specs.Name.{name_text}
use Rattle.image.proofs.Then.{then}
use Rattle.tool_commands.proofs.finding.put_around.Goals as goal

pub returns : goal.returns
returns g c =
    let w = g.W.Write.contents in
    let front = c.args.front.now in
    let name = name_text c.args.name.now in
    let start = append_known (w c.args.out.now) c.args.line.now.waiting in
    let first = append_known (w c.put.new.out) c.put.new.self.waiting in
    let second = append_known (w c.put_name.new.out) c.put_name.new.self.waiting in
    let a = Appends-trans start first second front name c.in_ok-put.ensures.ok c.in_ok-put_name.ensures.ok in
    then c.put-2.result start second _ (front ++ name) c.args.back.now a c.put-2.ensures.ok
