use Rattle.std.proofs.Common.{◌++◌, codes}
use Rattle.std.specs.Fmt.{decimal}
use Rattle.std.specs.Io.KnownBytes.{append_known}
use Rattle.std.proofs.KnownBytes.{Appends-trans}
use Rattle.std.proofs.lemmas.Result.{err_from_is_err_and}
use Rattle.commands.proofs.event_reply.put_slot.Goals as goal

pub returns-in_err-put-clause-ok : goal.returns-in_err-put-clause-ok
returns-in_err-put-clause-ok g c =
    let p = err_from_is_err_and c.from_residual.result c.from_residual.ensures.1 in
    rw p.1 tt

pub returns-in_err-put-clause-err : goal.returns-in_err-put-clause-err
returns-in_err-put-clause-err g c =
    let p = err_from_is_err_and c.from_residual.result c.from_residual.ensures.1 in
    rw p.1 c.in_err-put.ensures.err

pub returns-in_err-put_decimal-clause-ok : goal.returns-in_err-put_decimal-clause-ok
returns-in_err-put_decimal-clause-ok g c =
    let p = err_from_is_err_and c.from_residual-in_err-put_decimal.result c.from_residual-in_err-put_decimal.ensures.1 in
    rw p.1 tt

pub returns-in_err-put_decimal-clause-err : goal.returns-in_err-put_decimal-clause-err
returns-in_err-put_decimal-clause-err g c =
    let p = err_from_is_err_and c.from_residual-in_err-put_decimal.result c.from_residual-in_err-put_decimal.ensures.1 in
    rw p.1 c.in_err-put_decimal.ensures.err

pub returns-in_err-put-2-clause-ok : goal.returns-in_err-put-2-clause-ok
returns-in_err-put-2-clause-ok g c =
    let p = err_from_is_err_and c.from_residual-in_err-put-2.result c.from_residual-in_err-put-2.ensures.1 in
    rw p.1 tt

pub returns-in_err-put-2-clause-err : goal.returns-in_err-put-2-clause-err
returns-in_err-put-2-clause-err g c =
    let p = err_from_is_err_and c.from_residual-in_err-put-2.result c.from_residual-in_err-put-2.ensures.1 in
    rw p.1 c.in_err-put-2.ensures.err

pub returns-clause-ok : goal.returns-clause-ok
returns-clause-ok g c =
    let w = g.W.Write.contents in
    let start = append_known (w c.args.out.now) c.args.line.now.waiting in
    let first = append_known (w c.put.new.out) c.put.new.self.waiting in
    let second = append_known (w c.put_decimal.new.out) c.put_decimal.new.self.waiting in
    let third = append_known (w c.put-2.new.out) c.put-2.new.self.waiting in
    let number = decimal c.args.slot in
    let a = Appends-trans start first second (codes "slot ") number c.in_ok-put.ensures.ok c.in_ok-put_decimal.ensures.ok in
    Appends-trans start second third (codes "slot " ++ number) (codes "\n") a c.in_ok-put-2.ensures.ok

pub returns-clause-err : goal.returns-clause-err
returns-clause-err g c = tt
