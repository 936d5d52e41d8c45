use Rattle.std.proofs.Common.{◌++◌, codes, length, ℕ, ap, sym, subst, ◌∙◌}
use Rattle.std.proofs.lemmas.List.{append_assoc}
use Rattle.std.specs.Prelude.{OnOk}
use Rattle.std.specs.Fmt.{decimal}
use Rattle.std.specs.Io.KnownBytes.{Appends, append_known}
use Rattle.std.proofs.KnownBytes.{Appends-trans}
use Rattle.text_output.specs.Hexadecimal.{address_text}
use Rattle.image.specs.Permissions.{bits_of, rwx}
use Rattle.image.proofs.Then.{then}
use Rattle.image.proofs.text.put_segment_line.Goals as goal

pub returns-clause-ok : goal.returns-clause-ok
returns-clause-ok g c =
    let w = g.W.Write.contents in
    let head = codes "segment 0x" in
    let address = address_text c.address.result in
    let count = decimal c.len.result in
    let bits = codes " " ++ rwx (bits_of c.permissions.result) ++ codes "\n" in
    let start = append_known (w c.args.out.now) c.args.buffer.now.waiting in
    let first = append_known (w c.put.new.out) c.put.new.self.waiting in
    let second = append_known (w c.put_address.new.out) c.put_address.new.self.waiting in
    let third = append_known (w c.put-2.new.out) c.put-2.new.self.waiting in
    let fourth = append_known (w c.put_decimal.new.out) c.put_decimal.new.self.waiting in
    let end = append_known (w c.put_permissions.new.out) c.put_permissions.new.buffer.waiting in
    let a = Appends-trans start first second head address c.in_ok-put.ensures.ok c.in_ok-put_address.ensures.ok in
    let b = Appends-trans start second third (head ++ address) (codes " ") a c.in_ok-put-2.ensures.ok in
    let d = Appends-trans start third fourth (head ++ address ++ codes " ") count b c.in_ok-put_decimal.ensures.ok in
    let front = head ++ address ++ codes " " ++ count in
    let all = then c.put_permissions.result start fourth end front bits d c.put_permissions.ensures.ok in
    let rights = rwx (bits_of c.permissions.result) in
    let same = append_assoc (front ++ codes " ") rights (codes "\n") ∙ append_assoc front (codes " ") (rights ++ codes "\n") in
    let at : ℕ → ℕ → ℕ → Type 0 = λ a n p.
    OnOk c.put_permissions.result (Appends start end (head ++ address_text a ++ codes " " ++ decimal n ++ codes " " ++ rwx p ++ codes "\n")) in
    subst (λ a. at a (length c.args.segment.now.bytes) c.args.segment.now.permissions) c.address.ensures
    (subst (λ n. at c.address.result n c.args.segment.now.permissions) (c.len.ensures.len ∙ ap length c.memory.ensures)
    (subst (at c.address.result c.len.result) c.permissions.ensures
    (subst (λ text. OnOk c.put_permissions.result (Appends start end text)) (sym same) all)))
