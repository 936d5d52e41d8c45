use Rattle.std.proofs.Common.{◌≡◌, ◌-◌, length, take}
use Rattle.scope.proofs.places.Places.shorten.Given as goal

abbrev pub invariant-loop-self : goal.invariant-loop-self
invariant-loop-self l = (l.self.limit ≡ l.initial.self.limit) × (take l.count l.self.places ≡ take l.count l.initial.self.places)

abbrev pub decreases-loop-self : goal.decreases-loop-self
decreases-loop-self l = length l.self.places - l.count
