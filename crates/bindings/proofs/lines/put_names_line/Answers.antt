use Rattle.std.proofs.Common.{◌++◌, codes}
use Rattle.std.specs.Io.KnownBytes.{append_known}
use Rattle.std.proofs.KnownBytes.{Appends-trans}
use Rattle.text_output.specs.Name.{name_text}
use Rattle.bindings.specs.Bindings.{name_line}
use Rattle.bindings.proofs.Texts.{then}
use Rattle.bindings.proofs.lines.put_names_line.Goals as goal

pub returns : goal.returns
returns g c =
    let w = g.W.Write.contents in
    let start = append_known (w c.args.out.now) c.args.buffer.now.waiting in
    let first = append_known (w c.put.new.out) c.put.new.self.waiting in
    let second = append_known (w c.put_name.new.out) c.put_name.new.self.waiting in
    let end = append_known (w c.put_name_line.new.out) c.put_name_line.new.buffer.waiting in
    let a = Appends-trans start first second c.args.says.now (name_text c.args.name.now) c.in_ok-put.ensures.ok c.in_ok-put_name.ensures.ok in
    then c.put_name_line.result start second end (c.args.says.now ++ name_text c.args.name.now) (name_line (codes " ") c.args.other.now) a c.put_name_line.ensures
