use Rattle.std.proofs.Common.{sym, subst}
use Rattle.store.specs.Opened.{IsAt}
use Rattle.registry.proofs.registry.Registry.update.Goals as goal

pub returns-in-Ok-clause-ok : goal.returns-in-Ok-clause-ok
returns-in-Ok-clause-ok g c s at = c.in-Ok.ensures.ok s (subst (λ r. IsAt g.D.Disk.facts r s) (sym c.self.view_is) at)
