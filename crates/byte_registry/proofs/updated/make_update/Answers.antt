use Rattle.std.proofs.Common.{Err, length, map, sym, subst}
use Rattle.std.proofs.lemmas.List.{length-map}
use Rattle.byte_disk.specs.declared.disk.ByteDisk.{ByteDisk}
use Rattle.byte_disk.specs.ByteDisk.{byte_facts}
use Rattle.store.specs.Draft.{Drafted, commit_calls}
use Rattle.store.specs.Opened.{Opened}
use Rattle.requests.specs.Request.{request_of}
use Rattle.registry.specs.Updating.{Plans, drafted_by}
use Rattle.byte_registry.specs.Updated.{StopsAt}
use Rattle.byte_registry.specs.inside.Planning.{MakesUpdate}
use Rattle.byte_registry.proofs.Updates.{drafted_at, is_made, is_uncommitted, is_stopped, is_unbegun}
use Rattle.byte_registry.proofs.updated.make_update.Goals as goal

pub returns-in-Err : goal.returns-in-Err
returns-in-Err c s at =
    let requests = map request_of c.args.commands.now in
    subst (λ (r : Opened ByteDisk). MakesUpdate c.args.registry r s requests (Err (0, c.in-Err.refusal))) (sym c.in-Err.ensures.same)
    (is_unbegun c.args.registry s at requests c.in-Err.refusal c.in-Err.ensures.refused)

pub returns-in-Ok-made : goal.returns-in-Ok-made
returns-in-Ok-made c s at =
    let requests = map request_of c.args.commands.now in
    let u = c.plan_all.new.update in
    let answers = c.in-Ok-plan_all.ensures.0 in
    let plans = subst (λ (old : Drafted ByteDisk). Plans byte_facts old u requests answers) c.in-Ok.ensures.begun c.in-Ok-plan_all.ensures.1 in
    let there = drafted_at c.args.registry s at requests answers u plans in
    is_made c.args.registry s at requests answers u plans c.commit-made.result.1 (c.commit-made.ensures.any_moment s (drafted_by s requests) there)
    (rw c.in-Ok-made.is at (c.commit-made.ensures.ok s (drafted_by s requests) there))

pub returns-in-Err-made : goal.returns-in-Err-made
returns-in-Err-made c s at =
    let requests = map request_of c.args.commands.now in
    let u = c.plan_all.new.update in
    let answers = c.in-Ok-plan_all.ensures.0 in
    let plans = subst (λ (old : Drafted ByteDisk). Plans byte_facts old u requests answers) c.in-Ok.ensures.begun c.in-Ok-plan_all.ensures.1 in
    let there = drafted_at c.args.registry s at requests answers u plans in
    is_uncommitted c.args.registry s at requests answers u plans c.commit-made.result.1 (c.commit-made.ensures.any_moment s (drafted_by s requests) there) (commit_calls u.touched (length u.entries)) (length c.args.commands.now) c.in-Err-made.refusal
    (sym (length-map c.args.commands.now request_of)) (rw c.in-Err-made.is at c.commit-made.ensures.on_any_disk)

pub returns-in-Err-plan_all : goal.returns-in-Err-plan_all
returns-in-Err-plan_all c s at =
    let requests = map request_of c.args.commands.now in
    let u = c.plan_all.new.update in
    let refused = c.in-Err-plan_all.refused in
    subst (λ (r : Opened ByteDisk). MakesUpdate c.args.registry r s requests (Err refused)) (sym c.give_up.ensures.same)
    (is_stopped c.args.registry s at requests u refused
    (subst (λ (old : Drafted ByteDisk). StopsAt old u requests refused.0 refused.1) c.in-Ok.ensures.begun c.in-Err-plan_all.ensures))
