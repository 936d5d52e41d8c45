use Rattle.std.proofs.Common.{subst}
use Rattle.scope.specs.inside.Places.{AreTold}
use Rattle.scope.proofs.Apart.{told-fewer}
use Rattle.scope.proofs.places.Places.drop_last.Goals as goal

pub invariant_of-self : goal.invariant_of-self
invariant_of-self c =
    told-fewer c.self.inside.flags.items c.pop.new.self.items c.in-Some.place
    (subst (AreTold c.self.inside.flags.items) c.in-Some.ensures.items c.self.invariant)
