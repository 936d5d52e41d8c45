use Rattle.std.proofs.Common.{[], List, Bool, sym, subst}
use Rattle.scope.specs.inside.Places.{AreTold}
use Rattle.scope.proofs.Apart.{told-none}
use Rattle.scope.proofs.places.Places.new.Goals as goal

pub invariant_of-result : goal.invariant_of-result
invariant_of-result c =
    subst (AreTold c.in_ok-flags.flags.items) (sym c.new-places.ensures.items)
    (subst (λ (l : List Bool). AreTold l []) (sym (c.in_ok-flags.ensures.items_if_clones_equal (λ y e. e))) (told-none c.args.limit))
