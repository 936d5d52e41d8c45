use Rattle.std.proofs.Common.{◌++◌, codes, List, ℕ, subst}
use Rattle.std.specs.Prelude.{OnOk}
use Rattle.std.specs.Io.KnownBytes.{Appends, append_known}
use Rattle.std.proofs.KnownBytes.{Appends-trans}
use Rattle.text_output.specs.Hexadecimal.{address_text}
use Rattle.text_output.specs.Name.{name_text}
use Rattle.image.proofs.Then.{then}
use Rattle.image.proofs.text.put_object_line.Goals as goal

pub returns-clause-ok : goal.returns-clause-ok
returns-clause-ok g c =
    let w = g.W.Write.contents in
    let head = codes "object 0x" in
    let base = address_text c.args.object.now.base in
    let name = name_text c.as_bytes.result.now in
    let start = append_known (w c.args.out.now) c.args.buffer.now.waiting in
    let first = append_known (w c.put.new.out) c.put.new.self.waiting in
    let second = append_known (w c.put_address.new.out) c.put_address.new.self.waiting in
    let third = append_known (w c.put-2.new.out) c.put-2.new.self.waiting in
    let fourth = append_known (w c.put_name.new.out) c.put_name.new.self.waiting in
    let a = Appends-trans start first second head base c.in_ok-put.ensures.ok c.in_ok-put_address.ensures.ok in
    let b = Appends-trans start second third (head ++ base) (codes " ") a c.in_ok-put-2.ensures.ok in
    let d = Appends-trans start third fourth (head ++ base ++ codes " ") name b c.in_ok-put_name.ensures.ok in
    let end = append_known (w c.put-3.new.out) c.put-3.new.self.waiting in
    subst (λ (n : List ℕ). OnOk c.put-3.result (Appends start end (head ++ base ++ codes " " ++ name_text n ++ codes "\n"))) c.as_bytes.ensures
    (then c.put-3.result start fourth end (head ++ base ++ codes " " ++ name) (codes "\n") d c.put-3.ensures.ok)
