use Rattle.std.proofs.lemmas.Result.{err_from_is_err_and}
use Rattle.contents.proofs.contents.Contents.open.Goals as goal

pub returns-in_err-store : goal.returns-in_err-store
returns-in_err-store g c =
    let p = err_from_is_err_and c.from_residual.result c.from_residual.ensures.1 in
    rw (p.1, p.2) c.in_err-store.ensures

pub returns : goal.returns
returns g c = c.in_ok-store.ensures
