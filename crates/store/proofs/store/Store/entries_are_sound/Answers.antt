use Rattle.std.proofs.Common.{sym, subst}
use Rattle.roots.specs.declared.version.Version.TheVariants.{Two}
use Rattle.store.specs.Opened.{IsAtBy}
use Rattle.store.specs.Stands.{TellLengths}
use Rattle.store.proofs.Queries.{length_is}
use Rattle.store.proofs.store.Store.entries_are_sound.Goals as goal

pub returns-clause-lengths : goal.returns-clause-lengths
returns-clause-lengths g c s at =
    let here = subst (λ store. IsAtBy Two g.D.Disk.facts store s) (sym c.self.view_is) at in
    subst (λ store. TellLengths store.entries s) c.self.view_is
    (length_is g.D.Disk.facts Two _ s (g.met.D.Disk.holds_now _) here (g.met.D.Disk.whole_sectors _) c.self.invariant.0.entries_fit)
