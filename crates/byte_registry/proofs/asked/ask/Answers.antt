use Rattle.std.proofs.Common.{sym, subst, ◌<◌}
use Rattle.byte_disk.specs.ByteDisk.{byte_facts}
use Rattle.states.specs.State.{State}
use Rattle.requests.specs.Request.{request_of}
use Rattle.byte_registry.specs.Asked.{IsAsked}
use Rattle.byte_registry.specs.Plans.{synced_plan}
use Rattle.byte_registry.proofs.Asking.{asked, failed}
use Rattle.byte_registry.proofs.asked.ask.Goals as goal

pub returns-in-Ok-clause-ok : goal.returns-in-Ok-clause-ok
returns-in-Ok-clause-ok c =
    let on = c.in-Ok.ensures.ok in
    let apply = c.apply-reply in
    let request = request_of c.args.command.now in
    subst (λ d. (s : State) × IsAsked c.args.disk.now s request apply.result (synced_plan d)) (sym c.into_disk.ensures)
    (asked c.args.disk.now c.in-Ok.registry on request apply.result apply.new.self (apply.ensures.untested on.found.0 on.found.2)
    (apply.ensures.all_calls on.found.0 on.found.2))

pub returns-in-Ok-clause-device : goal.returns-in-Ok-clause-device
returns-in-Ok-clause-device c device =
    let on = c.in-Ok.ensures.ok in
    let apply = c.apply-reply in
    subst (λ d. 0 < (byte_facts d).failures) (sym c.into_disk.ensures)
    (failed c.args.disk.now c.in-Ok.registry on (request_of c.args.command.now) apply.result apply.new.self
    (apply.ensures.untested on.found.0 on.found.2) device)
