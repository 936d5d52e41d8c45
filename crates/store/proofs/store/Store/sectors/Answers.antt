use Rattle.std.proofs.Common.{sym, ap, ◌∙◌}
use Rattle.store.proofs.store.Store.sectors.Goals as goal

pub returns-clause-disk : goal.returns-clause-disk
returns-clause-disk g c = sym c.self.invariant.2 ∙ ap (λ store. (g.D.Disk.facts store.disk).sectors) c.self.view_is
