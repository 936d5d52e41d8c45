use Rattle.std.proofs.Common.{◌++◌, codes, ap}
use Rattle.std.specs.Io.KnownBytes.{append_known}
use Rattle.std.proofs.KnownBytes.{Appends-trans}
use Rattle.program_parts.proofs.Sent.{sent}
use Rattle.program_parts.proofs.message.write_unreadable.Goals as goal

pub returns : goal.returns
returns g c =
    let w = g.E.Write.contents in
    let program = c.args.program.now in
    let says = codes ": cannot read " in
    let path = c.args.path.now in
    let none = c.new-line.result.waiting in
    let start = append_known (w c.args.errors.now) none in
    let first = append_known (w c.put.new.out) c.put.new.self.waiting in
    let second = append_known (w c.put-2.new.out) c.put-2.new.self.waiting in
    let third = append_known (w c.put-3.new.out) c.put-3.new.self.waiting in
    let fourth = append_known (w c.put-4.new.out) c.put-4.new.self.waiting in
    let a = Appends-trans start first second program says c.in_ok-put.ensures.ok c.in_ok-put-2.ensures.ok in
    let b = Appends-trans start second third (program ++ says) path a c.in_ok-put-3.ensures.ok in
    let d = Appends-trans start third fourth (program ++ says ++ path) (codes "\n") b c.in_ok-put-4.ensures.ok in
    sent c.send.result (w c.args.errors.now) (w c.put-4.new.out) (w c.send.new.out) none c.put-4.new.self.waiting
    (program ++ says ++ path ++ codes "\n") (ap (λ b. b.waiting) c.new-line.ensures) d c.send.ensures.ok
