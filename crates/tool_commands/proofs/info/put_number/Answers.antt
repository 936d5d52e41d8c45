use Rattle.std.proofs.Common.{◌++◌}
use Rattle.std.specs.Fmt.{decimal}
use Rattle.std.specs.Io.KnownBytes.{append_known}
use Rattle.std.proofs.KnownBytes.{Appends-trans}
use Rattle.image.proofs.Then.{then}
use Rattle.tool_commands.proofs.info.put_number.Goals as goal

pub returns : goal.returns
returns g c =
    let w = g.W.Write.contents in
    let front = c.args.front.now in
    let number = decimal c.args.number in
    let start = append_known (w c.args.out.now) c.args.line.now.waiting in
    let first = append_known (w c.put.new.out) c.put.new.self.waiting in
    let second = append_known (w c.put_decimal.new.out) c.put_decimal.new.self.waiting in
    let a = Appends-trans start first second front number c.in_ok-put.ensures.ok c.in_ok-put_decimal.ensures.ok in
    then c.put-2.result start second _ (front ++ number) c.args.back.now a c.put-2.ensures.ok
