use Rattle.std.proofs.Common.{◌++◌, codes}
use Rattle.std.specs.Io.KnownBytes.{append_known}
use Rattle.std.proofs.KnownBytes.{Appends-trans}
use Rattle.text_output.specs.Hexadecimal.{address_text}
use Rattle.text_output.specs.Name.{name_text}
use Rattle.bindings.specs.Bindings.{name_line}
use Rattle.bindings.proofs.Texts.{then}
use Rattle.bindings.proofs.lines.put_binds_line.Goals as goal

pub returns : goal.returns
returns g c =
    let w = g.W.Write.contents in
    let start = append_known (w c.args.out.now) c.args.buffer.now.waiting in
    let first = append_known (w c.put.new.out) c.put.new.self.waiting in
    let second = append_known (w c.put_name.new.out) c.put_name.new.self.waiting in
    let third = append_known (w c.put-2.new.out) c.put-2.new.self.waiting in
    let fourth = append_known (w c.put_address.new.out) c.put_address.new.self.waiting in
    let end = append_known (w c.put_name_line.new.out) c.put_name_line.new.buffer.waiting in
    let symbol = name_text c.args.symbol.now in
    let value = address_text c.args.value in
    let a = Appends-trans start first second (codes "binds ") symbol c.in_ok-put.ensures.ok c.in_ok-put_name.ensures.ok in
    let b = Appends-trans start second third (codes "binds " ++ symbol) (codes " 0x") a c.in_ok-put-2.ensures.ok in
    let d = Appends-trans start third fourth (codes "binds " ++ symbol ++ codes " 0x") value b c.in_ok-put_address.ensures.ok in
    then c.put_name_line.result start fourth end (codes "binds " ++ symbol ++ codes " 0x" ++ value) (name_line (codes " ") c.args.object.now) d c.put_name_line.ensures
