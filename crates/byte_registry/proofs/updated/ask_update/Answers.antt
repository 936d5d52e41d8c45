use Rattle.std.proofs.Common.{sym, subst, map, ◌<◌, ◌≡◌}
use Rattle.std.specs.Prelude.{IfErr}
use Rattle.byte_disk.specs.ByteDisk.{byte_facts}
use Rattle.states.specs.State.{State}
use Rattle.requests.specs.Request.{request_of}
use Rattle.requests.specs.declared.refusal.Refusal.TheVariants.{Device}
use Rattle.byte_registry.specs.Updated.{IsUpdateAsked}
use Rattle.byte_registry.proofs.Updates.{update_asked}
use Rattle.byte_registry.proofs.updated.ask_update.Goals as goal

pub returns-in-Ok-clause-ok : goal.returns-in-Ok-clause-ok
returns-in-Ok-clause-ok c =
    let on = c.in-Ok.ensures.ok in
    let made = c.make_update-answer.result in
    let requests = map request_of c.args.commands.now in
    subst (λ d. (s : State) × IsUpdateAsked c.args.disk.now s requests made.0 d) (sym c.into_disk.ensures)
    (update_asked c.args.disk.now c.in-Ok.registry on requests made.1 made.0 (c.make_update-answer.ensures on.found.0 on.found.2))

pub returns-in-Ok-clause-device : goal.returns-in-Ok-clause-device
returns-in-Ok-clause-device c =
    let on = c.in-Ok.ensures.ok in
    let made = c.make_update-answer.result in
    subst (λ d. IfErr made.0 (λ refused. refused.1 ≡ Device → 0 < (byte_facts d).failures)) (sym c.into_disk.ensures)
    (c.make_update-answer.ensures on.found.0 on.found.2).device
