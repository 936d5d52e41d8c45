use Rattle.std.proofs.Common.{List, ap, ◌∙◌}
use Rattle.std.specs.Prelude.{slice_get}
use Rattle.std.specs.Option.{option_map}
use Rattle.scope.specs.Objects.{Named}
use Rattle.scope.proofs.Queueing.{program-first, order-is}
use Rattle.scope.proofs.loading.load_order.Goals as goal

pub new-requires : goal.new-requires
new-requires c =
    let is = order-is c.args.program.now c.args.libraries.now c.args.preloads.now c.deref.result.now (c.deref.ensures.value ∙ c.in_ok-places.ensures.ok) in
    record {
      program = ap (λ (l : List Named). option_map (λ o. o.name) (slice_get l 0)) (c.in_ok-objects_at.ensures.objects ∙ is)
          ∙ program-first c.args.program.now c.args.libraries.now c.args.preloads.now;
      taken = c.in_ok-objects_at.ensures.taken;
    }

pub returns-clause-ok : goal.returns-clause-ok
returns-clause-ok c =
    c.new.ensures ∙ c.in_ok-objects_at.ensures.objects
    ∙ order-is c.args.program.now c.args.libraries.now c.args.preloads.now c.deref.result.now (c.deref.ensures.value ∙ c.in_ok-places.ensures.ok)
