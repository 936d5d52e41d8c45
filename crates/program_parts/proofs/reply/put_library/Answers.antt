use Rattle.std.proofs.Common.{◌++◌, codes, subst}
use Rattle.std.specs.Fmt.{decimal}
use Rattle.std.specs.Io.KnownBytes.{Appends, append_known}
use Rattle.std.proofs.KnownBytes.{Appends-trans}
use Rattle.text_output.specs.Name.{name_text}
use Rattle.program_parts.proofs.reply.put_library.Goals as goal

pub returns-clause-ok : goal.returns-clause-ok
returns-clause-ok g c =
    let w = g.W.Write.contents in
    let head = codes "library " in
    let name = name_text c.as_bytes.result.now in
    let count = decimal c.from.result in
    let start = append_known (w c.args.out.now) c.args.line.now.waiting in
    let first = append_known (w c.put.new.out) c.put.new.self.waiting in
    let second = append_known (w c.put_name.new.out) c.put_name.new.self.waiting in
    let third = append_known (w c.put-2.new.out) c.put-2.new.self.waiting in
    let fourth = append_known (w c.put_decimal.new.out) c.put_decimal.new.self.waiting in
    let end = append_known (w c.put-3.new.out) c.put-3.new.self.waiting in
    let a = Appends-trans start first second head name c.in_ok-put.ensures.ok c.in_ok-put_name.ensures.ok in
    let b = Appends-trans start second third (head ++ name) (codes " ") a c.in_ok-put-2.ensures.ok in
    let d = Appends-trans start third fourth (head ++ name ++ codes " ") count b c.in_ok-put_decimal.ensures.ok in
    let all = Appends-trans start fourth end (head ++ name ++ codes " " ++ count) (codes "\n") d c.in_ok-put-3.ensures.ok in
    subst (λ n. Appends start end (head ++ name_text n ++ codes " " ++ decimal c.args.length ++ codes "\n")) c.as_bytes.ensures
    (subst (λ n. Appends start end (head ++ name ++ codes " " ++ decimal n ++ codes "\n")) c.from.ensures all)
