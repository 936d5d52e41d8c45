use Rattle.std.proofs.Common.{◌<◌, ◌^◌, arith}
use Rattle.std.proofs.lemmas.Result.{err_from_is_err_and}
use Rattle.file_disk.proofs.Lengths.{other_length}
use Rattle.file_disk.proofs.open.over_made.Goals as goal

pub returns-in_err-new-clause-length : goal.returns-in_err-new-clause-length
returns-in_err-new-clause-length c =
    let below : c.args.sectors < 2 ^ 32 = omega arith in
    let p = err_from_is_err_and c.from_residual.result c.from_residual.ensures.1 in
    rw (p.1, p.2) (other_length _ _ below c.in_err-new.ensures)

pub returns-in_err-disk-clause-length : goal.returns-in_err-disk-clause-length
returns-in_err-disk-clause-length c =
    let below : c.args.sectors < 2 ^ 32 = omega arith in
    let p = err_from_is_err_and c.from_residual-in_err-disk.result c.from_residual-in_err-disk.ensures.1 in
    rw (p.1, p.2) (other_length _ _ below c.in_err-disk.ensures.length)
