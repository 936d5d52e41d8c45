use Rattle.std.proofs.Common.{◌++◌, codes, subst}
use Rattle.std.specs.Prelude.{OnOk}
use Rattle.std.specs.Fmt.{decimal}
use Rattle.std.specs.Io.KnownBytes.{Appends, append_known}
use Rattle.std.proofs.KnownBytes.{Appends-trans}
use Rattle.image.proofs.Then.{then}
use Rattle.tool_commands.proofs.info.put_room.Goals as goal

pub returns : goal.returns
returns g c =
    let w = g.W.Write.contents in
    let unused = c.args.info.now.unused in
    let start = append_known (w c.args.out.now) c.args.line.now.waiting in
    let first = append_known (w c.put_number.new.out) c.put_number.new.line.waiting in
    let second = append_known (w c.put_number-2.new.out) c.put_number-2.new.line.waiting in
    let third = append_known (w c.put_number-3.new.out) c.put_number-3.new.line.waiting in
    let fourth = append_known (w c.put_number-4.new.out) c.put_number-4.new.line.waiting in
    let sectors = codes "unused " ++ decimal unused.sectors ++ codes "\n" in
    let free = codes "free " ++ decimal unused.free ++ codes "\n" in
    let runs = codes "runs " ++ decimal unused.runs ++ codes "\n" in
    let largest = codes "largest " ++ decimal unused.largest ++ codes "\nend\n" in
    let last = c.put_number-4.result in
    let both = Appends-trans start first second sectors free c.in_ok-put_number.ensures c.in_ok-put_number-2.ensures in
    let all = Appends-trans start second third (sectors ++ free) runs both c.in_ok-put_number-3.ensures in
    let numbered = subst (λ n. OnOk last (Appends third fourth (codes "largest " ++ decimal n ++ codes "\nend\n"))) c.from.ensures c.put_number-4.ensures in
    then last start third fourth (sectors ++ free ++ runs) largest all numbered
