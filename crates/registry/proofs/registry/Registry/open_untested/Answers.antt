use Rattle.std.proofs.lemmas.Result.{err_from_is_err_and}
use Rattle.registry.proofs.registry.Registry.open_untested.Goals as goal

pub returns-in_err-store-clause-opening : goal.returns-in_err-store-clause-opening
returns-in_err-store-clause-opening g c =
    let p = err_from_is_err_and c.from_residual.result c.from_residual.ensures.1 in
    rw (p.1, p.2) c.in_err-store.ensures

pub returns-in_err-store-clause-registry : goal.returns-in_err-store-clause-registry
returns-in_err-store-clause-registry g c honest s stands =
    let p = err_from_is_err_and c.from_residual.result c.from_residual.ensures.1 in
    rw (p.1, p.2) (c.in_err-store.ensures.opened.stands honest s stands.stored)

pub returns-clause-opening : goal.returns-clause-opening
returns-clause-opening g c = c.in_ok-store.ensures

pub returns-clause-registry : goal.returns-clause-registry
returns-clause-registry g c honest s stands = record { stored = c.in_ok-store.ensures.opened.stands honest s stands.stored; libraries = stands.libraries }
