use Rattle.roots.specs.declared.version.Version.TheVariants.{Two}
use Rattle.registry.proofs.Files.{AdmittedSoFar}
use Rattle.registry.proofs.admit.admit_files.Given as goal

abbrev pub invariant-loop-position : goal.invariant-loop-position
invariant-loop-position g l = AdmittedSoFar Two g.D.Disk.facts l.initial.store l.store l.position
