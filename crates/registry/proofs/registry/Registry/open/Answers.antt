use Rattle.std.proofs.lemmas.Result.{IfOk-weaker, err_from_is_err_and}
use Rattle.registry.proofs.Openings.{opens_admitted, opens_on_any_disk, opens_refused}
use Rattle.registry.proofs.Upgrades.{admitted_calls}
use Rattle.registry.proofs.registry.Registry.open.Goals as goal

pub returns-in_err-store-clause-opening : goal.returns-in_err-store-clause-opening
returns-in_err-store-clause-opening g c =
    let p = err_from_is_err_and c.from_residual.result c.from_residual.ensures.1 in
    rw (p.1, p.2) (opens_refused g.D.Disk.facts c.args.disk c.in_err-store.field-0.0 c.in_err-store.ensures.opened)

pub returns-in_err-store-clause-on_any_disk : goal.returns-in_err-store-clause-on_any_disk
returns-in_err-store-clause-on_any_disk g c =
    let p = err_from_is_err_and c.from_residual.result c.from_residual.ensures.1 in
    rw (p.1, p.2) c.in_err-store.ensures.on_any_disk

pub returns-in_err-store-clause-all_calls : goal.returns-in_err-store-clause-all_calls
returns-in_err-store-clause-all_calls g c =
    let p = err_from_is_err_and c.from_residual.result c.from_residual.ensures.1 in
    rw p.1 tt

pub returns-clause-opening : goal.returns-clause-opening
returns-clause-opening g c =
    let store = c.in_ok-store.ensures in
    let admitted = c.admit_current.ensures in
    opens_admitted g.D.Disk.facts c.args.disk c.in_ok-store.store store.opened store.on_any_disk c.admit_current.result
    (g.met.D.Disk.holds_now c.args.disk) admitted.any_moment admitted.now admitted.log admitted.ok admitted.damaged admitted.refusals

pub returns-clause-on_any_disk : goal.returns-clause-on_any_disk
returns-clause-on_any_disk g c =
    let admitted = c.admit_current.ensures in
    opens_on_any_disk g.D.Disk.facts c.args.disk c.in_ok-store.store c.in_ok-store.ensures.opened c.in_ok-store.ensures.on_any_disk c.admit_current.result
    (IfOk-weaker c.admit_current.result _ _ (λ registry kept. kept.2) admitted.kept) admitted.unheld admitted.refusals admitted.device admitted.calls

pub returns-clause-all_calls : goal.returns-clause-all_calls
returns-clause-all_calls g c =
    let facts = g.D.Disk.facts in
    admitted_calls facts (facts c.args.disk) c.in_ok-store.store c.in_ok-store.ensures.all_calls c.admit_current.result c.admit_current.ensures.kept
    c.admit_current.ensures.all_calls
