use Rattle.std.proofs.Common.{◌≡◌, take}
use Rattle.extents.specs.Extent.{sector_count}
use Rattle.extents.proofs.extents.Extents.sector_count.Given as goal

abbrev pub invariant-loop-extent : goal.invariant-loop-extent
invariant-loop-extent l = l.count ≡ sector_count (take l.extent-index l.extent-items)
