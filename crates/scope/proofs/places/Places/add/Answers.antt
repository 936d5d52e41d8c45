use Rattle.std.proofs.Common.{◌<◌, Bool, false, true, length, set, List, ℕ, subst, sym, ◌∙◌}
use Rattle.std.proofs.lemmas.List.{get_or_default}
use Rattle.scope.specs.Queue.{Queue}
use Rattle.scope.specs.inside.Places.{AreTold}
use Rattle.scope.proofs.Apart.{told-more}
use Rattle.scope.proofs.places.Places.add.Goals as goal

pub invariant_of-self-then-not-index : goal.invariant_of-self-then-not-index
invariant_of-self-then-not-index c =
    let flags : List Bool = c.self.inside.flags.items in
    let places : List ℕ = c.self.inside.places.items in
    let lt : c.args.place < length flags = subst (λ (q : Queue). c.args.place < q.limit) (sym c.self.view_is) c.requires in
    subst (AreTold (set flags c.args.place true)) (sym c.in_ok-push.ensures.items)
    (told-more flags places c.args.place c.self.invariant lt
    (get_or_default flags c.args.place false c.index.result.now lt ∙ sym c.index.ensures ∙ c.if-not-index.true))
