use Rattle.std.proofs.Common.{◌≡◌, take}
use Rattle.sector_disk.specs.Written.{contents}
use Rattle.sector_disk.proofs.written.apply.Given as goal

abbrev pub invariant-loop-write : goal.invariant-loop-write
invariant-loop-write l = l.sectors ≡ contents l.initial.sectors (take l.write-index l.writes)
