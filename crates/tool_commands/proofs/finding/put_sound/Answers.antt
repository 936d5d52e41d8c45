use Rattle.std.proofs.Common.{◌++◌, codes, subst}
use Rattle.std.specs.Fmt.{decimal}
use Rattle.std.specs.Io.KnownBytes.{Appends, append_known}
use Rattle.std.proofs.KnownBytes.{Appends-trans}
use Rattle.text_output.specs.Name.{name_text}
use Rattle.tool_commands.proofs.finding.put_sound.Goals as goal

pub returns : goal.returns
returns g c =
    let w = g.W.Write.contents in
    let name = name_text c.args.name.now in
    let size = decimal c.from.result in
    let start = append_known (w c.args.out.now) c.args.line.now.waiting in
    let first = append_known (w c.put.new.out) c.put.new.self.waiting in
    let second = append_known (w c.put_name.new.out) c.put_name.new.self.waiting in
    let third = append_known (w c.put-2.new.out) c.put-2.new.self.waiting in
    let fourth = append_known (w c.put_decimal.new.out) c.put_decimal.new.self.waiting in
    let fifth = append_known (w c.put-3.new.out) c.put-3.new.self.waiting in
    let a = Appends-trans start first second (codes "ok ") name c.in_ok-put.ensures.ok c.in_ok-put_name.ensures.ok in
    let b = Appends-trans start second third (codes "ok " ++ name) (codes " ") a c.in_ok-put-2.ensures.ok in
    let d = Appends-trans start third fourth (codes "ok " ++ name ++ codes " ") size b c.in_ok-put_decimal.ensures.ok in
    let all = Appends-trans start fourth fifth (codes "ok " ++ name ++ codes " " ++ size) (codes "\n") d c.in_ok-put-3.ensures.ok in
    subst (λ n. Appends start fifth (codes "ok " ++ name ++ codes " " ++ decimal n ++ codes "\n")) c.from.ensures all
