-- The state of a registry that a list of sectors holds (own).
use Rattle.std.specs.Prelude.{◌⊎◌, List, All}
use Rattle.sector_disk.specs.Disk.{Sector}
use Rattle.states.specs.State.{State}
use Rattle.store.specs.Stands as store
use Rattle.requests.specs.Library.{IsLibrary}

-- the sectors m hold state s, and each file of s is a library whose name is its SONAME
pub record Stands (m : List Sector) (s : State) : Type 0 where
  pub stored : store.Stands m s
  pub libraries : All IsLibrary s.libraries

-- The sectors m are those of a disk of version 1, and hold state s by the rules of that version. Each
-- file of s is a library whose name is its SONAME.
pub record StandsOld (m : List Sector) (s : State) : Type 0 where
  pub stored : store.StandsOld m s
  pub libraries : All IsLibrary s.libraries

-- the sectors m hold state s by the rules of version 2 or by those of version 1
abbrev pub StandsEither : List Sector → State → Type 0
StandsEither m s = Stands m s ⊎ StandsOld m s
