use Rattle.std.proofs.Common.{◌≡◌, ◌++◌, ◌∷◌, [], ℕ, List, take, sym, ap, subst, ◌∙◌, arith}
use Rattle.std.specs.List.{All}
use Rattle.std.proofs.lemmas.List.{take_more}
use Rattle.std.proofs.lemmas.List.Elements.{All-push}
use Rattle.scope.specs.Objects.{Named, IsTaken}
use Rattle.scope.specs.LoadOrder.{available}
use Rattle.scope.proofs.order.Order.of.Goals as goal

pub loop-library-preserved : goal.loop-library-preserved
loop-library-preserved c =
    let program : List ℕ = c.args.program.now in
    let libraries : List Named = c.args.libraries.now in
    let i : ℕ = c.loop-library.library-index in
    let library : Named = c.library-item.result in
    let object : Named = c.new-in-loop-library.result in
    let is : object ≡ library =
    c.new-in-loop-library.ensures.same
    ∙ ap (λ (n : List ℕ). let o : Named = record { name = n; file = c.object.result.now } in o) c.name.ensures
    ∙ ap (λ (f : List ℕ). let o : Named = record { name = library.name; file = f } in o) c.object.ensures in
    record {
      objects =
          c.push_reserved-in-loop-library.ensures.items
          ∙ ap (λ (l : List Named). l ++ object ∷ []) c.loop-library.invariant.objects
          ∙ ap (λ (o : Named). available program (take i libraries) ++ o ∷ []) (is ∙ c.library-item.is)
          ∙ ap (available program) (sym (take_more libraries i library c.loop-library-test.true));
      len = omega (arith, c.push_reserved-in-loop-library.ensures.len, c.loop-library.invariant.len);
      room = omega (arith, c.push_reserved-in-loop-library.ensures.capacity, c.loop-library.invariant.room);
      taken = subst (All (λ (o : Named). IsTaken o.file)) (sym c.push_reserved-in-loop-library.ensures.items)
          (All-push (λ (o : Named). IsTaken o.file) c.loop-library.objects.items object c.loop-library.invariant.taken
          (subst IsTaken (sym (ap (λ (o : Named). o.file) c.new-in-loop-library.ensures.same)) c.new-in-loop-library.ensures.taken));
    }
