use Rattle.std.proofs.Common.{◌++◌, codes, subst}
use Rattle.std.specs.Fmt.{decimal}
use Rattle.std.specs.Io.KnownBytes.{Appends, append_known}
use Rattle.std.proofs.KnownBytes.{Appends-trans}
use Rattle.image.proofs.Then.{then}
use Rattle.tool_commands.proofs.info.put_disk.Goals as goal

pub returns : goal.returns
returns g c =
    let w = g.W.Write.contents in
    let start = append_known (w c.args.out.now) c.args.line.now.waiting in
    let first = append_known (w c.put.new.out) c.put.new.self.waiting in
    let second = append_known (w c.put_number.new.out) c.put_number.new.line.waiting in
    let sectors = codes "sectors " ++ decimal c.args.info.now.sectors ++ codes "\n" in
    let generation = codes "generation " ++ decimal c.args.info.now.generation ++ codes "\n" in
    let numbered = subst (λ n. Appends first second (codes "sectors " ++ decimal n ++ codes "\n")) c.from.ensures c.in_ok-put_number.ensures in
    let a = Appends-trans start first second (codes "version 2\n") sectors c.in_ok-put.ensures.ok numbered in
    then c.put_number-2.result start second _ (codes "version 2\n" ++ sectors) generation a c.put_number-2.ensures
