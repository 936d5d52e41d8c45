-- The effect of an upgrade on a disk of version 1 or 2 (own).
use Rattle.std.specs.Prelude.{◌⊎◌, List}
use Rattle.sector_disk.specs.Disk.{Sector, DiskFacts}
use Rattle.states.specs.State.{State}
use Rattle.store.specs.Opened.{Opened}
use Rattle.store.specs.Upgraded.{upgraded}
use Rattle.registry.specs.Opened.{IsAt}
use Rattle.registry.specs.Stands.{Stands, StandsOld}

-- the sectors m hold no state by the rules of version 1
abbrev pub IsNotOld : List Sector → Type 0
IsNotOld m = (s : State) → StandsOld m s → ⊥

-- The sectors m hold state s by the rules of version 2, and the registry is at s; or they hold s by
-- the rules of version 1, and the registry is at the upgraded state.
abbrev pub IsUpgradeOf : {D : Type 0} → (D → DiskFacts) → Opened D → List Sector → State → Type 0
IsUpgradeOf facts registry m s = (Stands m s × IsAt facts registry s) ⊎ (StandsOld m s × IsAt facts registry (upgraded s))
