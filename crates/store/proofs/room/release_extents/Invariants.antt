use Rattle.std.proofs.Common.{drop}
use Rattle.extents.specs.Extent.{places}
use Rattle.store.proofs.Releases.{IsReleasedTo}
use Rattle.store.proofs.room.release_extents.Given as goal

abbrev pub invariant-loop-extent : goal.invariant-loop-extent
invariant-loop-extent l = IsReleasedTo l.initial.layout l.layout (places l.extents) (places (drop l.extent-index l.extents))
