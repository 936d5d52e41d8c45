use Rattle.std.proofs.Common.{drop}
use Rattle.store.proofs.Releases.{IsReleasedTo}
use Rattle.store.proofs.room.release_sectors.Given as goal

abbrev pub invariant-loop-at : goal.invariant-loop-at
invariant-loop-at l = IsReleasedTo l.initial.layout l.layout l.sectors (drop l.at-index l.sectors)
