use Rattle.std.proofs.Common.{◌++◌, codes}
use Rattle.std.specs.Io.KnownBytes.{append_known}
use Rattle.std.proofs.KnownBytes.{Appends-trans}
use Rattle.text_output.specs.Hexadecimal.{address_text}
use Rattle.bindings.specs.Bindings.{name_line}
use Rattle.bindings.proofs.Texts.{then}
use Rattle.bindings.proofs.lines.put_object_line.Goals as goal

pub returns : goal.returns
returns g c =
    let w = g.W.Write.contents in
    let start = append_known (w c.args.out.now) c.args.buffer.now.waiting in
    let first = append_known (w c.put.new.out) c.put.new.self.waiting in
    let second = append_known (w c.put_address.new.out) c.put_address.new.self.waiting in
    let end = append_known (w c.put_name_line.new.out) c.put_name_line.new.buffer.waiting in
    let base = address_text c.args.base in
    let a = Appends-trans start first second (codes "object 0x") base c.in_ok-put.ensures.ok c.in_ok-put_address.ensures.ok in
    then c.put_name_line.result start second end (codes "object 0x" ++ base) (name_line (codes " ") c.args.name.now) a c.put_name_line.ensures
