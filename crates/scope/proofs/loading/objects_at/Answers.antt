use Rattle.std.proofs.Common.{◌++◌, ◌∷◌, [], List, map, take, ap, sym, subst, ◌∙◌, arith}
use Rattle.std.specs.List.{All}
use Rattle.std.proofs.lemmas.List.{map_more}
use Rattle.std.proofs.lemmas.List.Elements.{All-push}
use Rattle.scope.specs.Objects.{Named, IsTaken}
use Rattle.scope.specs.LoadOrder.{available, object_at}
use Rattle.scope.proofs.loading.objects_at.Goals as goal

pub loop-place-preserved : goal.loop-place-preserved
loop-place-preserved c =
    let at = object_at (available c.args.program.now c.args.libraries.now) in
    record {
      objects =
          c.push_reserved.ensures.items
          ∙ ap (λ (l : List Named). l ++ c.object_at.result ∷ []) c.loop-place.invariant.objects
          ∙ ap (λ (o : Named). map at (take c.loop-place.place-index c.args.places.now) ++ o ∷ []) c.object_at.ensures.object
          ∙ sym (map_more at c.args.places.now c.loop-place.place-index 0 c.loop-place-test.true);
      len = omega (arith, c.push_reserved.ensures.len, c.loop-place.invariant.len);
      room = omega (arith, c.push_reserved.ensures.capacity, c.loop-place.invariant.room);
      taken = subst (All (λ (o : Named). IsTaken o.file)) (sym c.push_reserved.ensures.items)
          (All-push (λ (o : Named). IsTaken o.file) c.loop-place.objects.items c.object_at.result c.loop-place.invariant.taken c.object_at.ensures.taken);
    }
