use Rattle.std.proofs.Common.{◌≡◌, ℕ, ◌<◌, length, get_or, drop}
use Rattle.sector_disk.specs.Written.{written_to}
use Rattle.sector_disk.proofs.choices.uncount.Given as goal

abbrev pub invariant-loop-write : goal.invariant-loop-write
invariant-loop-write l = (k : ℕ) → k < length l.counts → get_or l.counts k 0 ≡ length (written_to k (drop l.write-index l.write-items))
