use Rattle.std.proofs.Common.{◌++◌, codes}
use Rattle.std.specs.Io.KnownBytes.{append_known}
use Rattle.std.proofs.KnownBytes.{Appends-trans}
use Rattle.hex.specs.Hex.{encode_lower}
use Rattle.program_parts.proofs.Sent.{ended}
use Rattle.tool_commands.proofs.dump.put_install.Goals as goal

pub returns : goal.returns
returns g c =
    let w = g.W.Write.contents in
    let digits = encode_lower c.args.file.now in
    let start = append_known (w c.args.out.now) c.args.script.now.waiting in
    let first = append_known (w c.put.new.out) c.put.new.self.waiting in
    let second = append_known (w c.put_hex.new.out) c.put_hex.new.text.waiting in
    let a = Appends-trans start first second (codes "install ") digits c.in_ok-put.ensures.ok c.in_ok-put_hex.ensures.ok in
    ended start (w c.put_hex.new.out) c.put_hex.new.text.waiting c.end_line.new.self.waiting (codes "install " ++ digits) a c.end_line.ensures
