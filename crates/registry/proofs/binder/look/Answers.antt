use Rattle.std.proofs.lemmas.Result.{err_from_is_err_and}
use Rattle.requests.proofs.Bindings.{memory}
use Rattle.std.proofs.Common.{subst}
use Rattle.registry.specs.inside.Walked.{IsWalked}
use Rattle.registry.proofs.Sources.{are_names}
use Rattle.registry.proofs.binder.look.Goals as goal

pub returns-in_err-walk-clause-refused : goal.returns-in_err-walk-clause-refused
returns-in_err-walk-clause-refused g c =
    let p = err_from_is_err_and c.from_residual-in_err-walk.result c.from_residual-in_err-walk.ensures.1 in
    rw (p.1, p.2) (memory c.args.program.now c.args.base c.in_ok-program.ensures.accepted)

pub returns-clause-ok : goal.returns-clause-ok
returns-clause-ok g c entries s offers =
    subst (λ p. IsWalked p s c.in_ok-walk.walk.needs c.in_ok-walk.walk.files.items) c.in_ok-program.ensures.same (c.in_ok-walk.ensures.ok entries s (are_names g.D.Disk.facts c.args.source entries s c.args.store.now offers))

pub returns-clause-accepted : goal.returns-clause-accepted
returns-clause-accepted g c = c.in_ok-program.ensures.accepted

pub returns-clause-among : goal.returns-clause-among
returns-clause-among g c = c.in_ok-walk.ensures.among

pub returns-clause-none : goal.returns-clause-none
returns-clause-none g c = c.in_ok-walk.ensures.none
