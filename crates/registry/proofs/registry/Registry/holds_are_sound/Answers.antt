use Rattle.std.proofs.Common.{subst}
use Rattle.store.specs.Holds.{AreHolds}
use Rattle.registry.proofs.registry.Registry.holds_are_sound.Goals as goal

pub returns : goal.returns
returns g c = subst (λ k. AreHolds k) c.self.view_is c.holds_are_sound.ensures
