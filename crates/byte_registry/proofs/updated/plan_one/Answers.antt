use Rattle.requests.specs.Request.{request_of}
use Rattle.byte_registry.proofs.Updates.{refused_in}
use Rattle.byte_registry.proofs.updated.plan_one.Goals as goal

pub returns-clause-err : goal.returns-clause-err
returns-clause-err c =
    let did = c.apply-reply.ensures in
    refused_in c.args.update.now c.apply-reply.new.self (request_of c.args.command.now) c.apply-reply.result c.refusal_in.result
    (record { applied = did.applied; on_any_disk = did.on_any_disk; bound = did.bound }) c.refusal_in.ensures
