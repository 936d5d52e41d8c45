use Rattle.std.proofs.Common.{codes}
use Rattle.std.specs.Fmt.{decimal}
use Rattle.std.specs.Io.KnownBytes.{append_known}
use Rattle.image.proofs.Then.{then}
use Rattle.program_parts.proofs.refusal.put_detail.Goals as goal

pub returns-in_ok-put-in-RelocationType-clause-ok : goal.returns-in_ok-put-in-RelocationType-clause-ok
returns-in_ok-put-in-RelocationType-clause-ok g c =
    let w = g.W.Write.contents in
    let start = append_known (w c.args.out.now) c.args.line.now.waiting in
    let first = append_known (w c.put.new.out) c.put.new.self.waiting in
    let number = rw c.from.ensures at c.put_decimal.ensures.ok in
    rw c.in-RelocationType.is
    (then c.put_decimal.result start first _ (codes " ") (decimal c.in-RelocationType.kind) c.in_ok-put-in-RelocationType.ensures.ok number)
