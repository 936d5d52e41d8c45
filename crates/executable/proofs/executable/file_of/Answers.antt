use Rattle.std.proofs.Common.{length, ap, ◌∙◌, arith}
use Rattle.executable.proofs.Lengths.{length-front_of, length-table_of}
use Rattle.executable.proofs.executable.file_of.Goals as goal

pub front_of-requires : goal.front_of-requires
front_of-requires c =
    let counted = ap length (c.deref-2.ensures.value ∙ c.in_ok-table.ensures) in
    let long = length-table_of c.args.place c.deref.result.now in
    let same = ap length c.deref.ensures.value in
    omega (arith, counted, long, same, c.requires.count)

-- the file header in the front is complete: the front has at least 64 bytes
pub invariant_of-result : goal.invariant_of-result
invariant_of-result c =
    let front = c.in_ok-front.ensures in
    let long = length-front_of c.args.entry c.deref-2.result.now in
    omega (arith, ap length front, long)
