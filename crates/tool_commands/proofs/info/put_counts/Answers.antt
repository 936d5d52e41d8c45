use Rattle.std.proofs.Common.{◌++◌, codes}
use Rattle.std.specs.Fmt.{decimal}
use Rattle.std.specs.Io.KnownBytes.{append_known}
use Rattle.image.proofs.Then.{then}
use Rattle.tool_commands.proofs.info.put_counts.Goals as goal

pub returns : goal.returns
returns g c =
    let w = g.W.Write.contents in
    let libraries = codes "libraries " ++ decimal c.args.info.now.libraries ++ codes " of 2048\n" in
    let preloads = codes "preloads " ++ decimal c.args.info.now.preloads ++ codes " of 16\n" in
    let start = append_known (w c.args.out.now) c.args.line.now.waiting in
    let first = append_known (w c.put_number.new.out) c.put_number.new.line.waiting in
    then c.put_number-2.result start first _ libraries preloads c.in_ok-put_number.ensures c.put_number-2.ensures
