use Rattle.std.proofs.Common.{◌++◌}
use Rattle.std.specs.Io.KnownBytes.{append_known}
use Rattle.std.proofs.KnownBytes.{Appends-trans}
use Rattle.image.proofs.Then.{then}
use Rattle.tool_commands.specs.Info.{disk_lines, count_lines, room_lines}
use Rattle.tool_commands.proofs.info.put_info.Goals as goal

pub returns : goal.returns
returns g c =
    let w = g.W.Write.contents in
    let info = c.args.info.now in
    let start = append_known (w c.args.out.now) c.args.line.now.waiting in
    let first = append_known (w c.put_disk.new.out) c.put_disk.new.line.waiting in
    let second = append_known (w c.put_counts.new.out) c.put_counts.new.line.waiting in
    let disk = disk_lines info.sectors info.generation in
    let counts = count_lines info.libraries info.preloads in
    let a = Appends-trans start first second disk counts c.in_ok-put_disk.ensures c.in_ok-put_counts.ensures in
    then c.put_room.result start second _ (disk ++ counts) (room_lines info.unused.sectors info.unused.free info.unused.runs info.unused.largest) a c.put_room.ensures
