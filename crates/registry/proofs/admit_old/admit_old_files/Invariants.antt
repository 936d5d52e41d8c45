use Rattle.roots.specs.declared.version.Version.TheVariants.{One}
use Rattle.registry.proofs.Files.{AdmittedSoFar}
use Rattle.registry.proofs.admit_old.admit_old_files.Given as goal

abbrev pub invariant-loop-position : goal.invariant-loop-position
invariant-loop-position g l = AdmittedSoFar One g.D.Disk.facts l.initial.store l.store l.position
