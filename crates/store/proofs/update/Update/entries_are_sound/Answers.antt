use Rattle.std.proofs.Common.{subst}
use Rattle.store.specs.Stands.{HaveOwnNames}
use Rattle.store.proofs.update.Update.entries_are_sound.Goals as goal

pub returns : goal.returns
returns g c = subst (λ u. HaveOwnNames u.entries) c.self.view_is c.self.invariant.list.names
