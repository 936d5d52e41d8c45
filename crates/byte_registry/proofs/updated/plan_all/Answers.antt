use Rattle.std.proofs.Common.{[], ◌∷◌, ◌++◌, List, map, subst, arith}
use Rattle.std.proofs.lemmas.List.{take_all}
use Rattle.byte_disk.specs.ByteDisk.{byte_facts}
use Rattle.requests.specs.Request.{request_of}
use Rattle.requests.specs.declared.command.Command.{Command}
use Rattle.requests.specs.declared.command.Command.TheVariants as command
use Rattle.registry.specs.Updating.{Plans}
use Rattle.byte_registry.proofs.Updates.{plans_none, planned_more, stops_at}
use Rattle.byte_registry.proofs.updated.plan_all.Goals as goal

pub loop-place-init : goal.loop-place-init
loop-place-init c = ([], plans_none c.args.update.now)

pub loop-place-preserved : goal.loop-place-preserved
loop-place-preserved c =
    let none : Command = command.Install (record { ref_ptr = (0, 0); now = [] }) in
    let loop = c.loop-place in
    let did = c.in_default.ensures.ok in (
      loop.invariant.0 ++ did.0 ∷ [],
      planned_more c.args.commands.now loop.place none c.loop-place-test.true c.args.update.now loop.update c.plan_one.new.update loop.invariant.0 loop.invariant.1 did.0 did.1 did.2,
    )

pub returns-in-Err : goal.returns-in-Err
returns-in-Err c =
    let none : Command = command.Install (record { ref_ptr = (0, 0); now = [] }) in
    let loop = c.loop-place in
    stops_at c.args.commands.now loop.place none c.loop-place-test.true c.args.update.now loop.update c.plan_one.new.update loop.invariant.0 loop.invariant.1 c.in-Err.refusal c.in-Err.ensures.err

pub returns : goal.returns
returns c =
    let loop = c.loop-place in (
      loop.invariant.0,
      subst (λ (l : List Command). Plans byte_facts c.args.update.now loop.update (map request_of l) loop.invariant.0) (take_all loop.place c.args.commands.now (omega (arith, c.loop-place-test.false))) loop.invariant.1,
    )
