use Rattle.std.proofs.Common.{Ok, Err}
use Rattle.std.proofs.lemmas.Result.{err_from_is_err_and}
use Rattle.registry.proofs.Openings.{made_empty}
use Rattle.registry.proofs.registry.Registry.format.Goals as goal

pub returns-in_err-store-clause-making : goal.returns-in_err-store-clause-making
returns-in_err-store-clause-making g c =
    let p = err_from_is_err_and c.from_residual.result c.from_residual.ensures.1 in
    rw (p.1, p.2) (made_empty g.D.Disk.facts c.args.disk (Err c.in_err-store.field-0.0) c.in_err-store.ensures.making)

pub returns-in_err-store-clause-on_any_disk : goal.returns-in_err-store-clause-on_any_disk
returns-in_err-store-clause-on_any_disk g c =
    let p = err_from_is_err_and c.from_residual.result c.from_residual.ensures.1 in
    rw (p.1, p.2) c.in_err-store.ensures.on_any_disk

pub returns-clause-making : goal.returns-clause-making
returns-clause-making g c = made_empty g.D.Disk.facts c.args.disk (Ok c.in_ok-store.store) c.in_ok-store.ensures.making

pub returns-clause-on_any_disk : goal.returns-clause-on_any_disk
returns-clause-on_any_disk g c = c.in_ok-store.ensures.on_any_disk
