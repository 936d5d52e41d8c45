use Rattle.std.proofs.Common.{sym, subst}
use Rattle.roots.specs.declared.version.Version.TheVariants.{Two}
use Rattle.store.specs.Opened.{IsAtBy}
use Rattle.store.proofs.Frees.{generation_of}
use Rattle.store.proofs.store.Store.generation.Goals as goal

pub returns-clause-state : goal.returns-clause-state
returns-clause-state g c s at =
    let here = subst (λ store. IsAtBy Two g.D.Disk.facts store s) (sym c.self.view_is) at in
    sym (generation_of g.D.Disk.facts (λ disk honest. g.met.D.Disk.holds_now _ honest) (λ disk honest. g.met.D.Disk.whole_sectors _ honest) here)
