use Rattle.std.proofs.Common.{◌≤◌, length, subst}
use Rattle.scope.specs.Queue.{Queue}
use Rattle.scope.proofs.Apart.{few}
use Rattle.scope.proofs.places.Places.count.Goals as goal

pub returns-clause-few : goal.returns-clause-few
returns-clause-few c = subst (λ (q : Queue). length q.places ≤ q.limit) c.self.view_is (few _ _ c.self.invariant.apart)
