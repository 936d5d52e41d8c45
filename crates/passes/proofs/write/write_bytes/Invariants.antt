use Rattle.passes.proofs.Files.{Progress}
use Rattle.passes.proofs.write.write_bytes.Given as goal

abbrev pub invariant-loop-extent : goal.invariant-loop-extent
invariant-loop-extent g l = Progress (g.D.Disk.facts l.initial.disk) (g.D.Disk.facts l.disk) l.extents l.extent-index l.bytes l.rest
