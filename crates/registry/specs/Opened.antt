-- The condition for a registry to be at a state (own).
use Rattle.std.specs.Prelude.{All}
use Rattle.sector_disk.specs.Disk.{DiskFacts}
use Rattle.store.specs.Opened as store
use Rattle.requests.specs.Library.{IsLibrary}
use Rattle.states.specs.State.{State}

-- the registry is at state s: the disk is honest, no write or sync has failed, every mixture holds s,
-- and each file is a library
pub record IsAt {D : Type 0} (facts : D → DiskFacts) (registry : store.Opened D) (s : State) : Type 0 where
  pub stored : store.IsAt facts registry s
  pub libraries : All IsLibrary s.libraries
