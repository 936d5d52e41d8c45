-- The result of upgrading a disk of version 1 or 2.
use Rattle.std.specs.Prelude.{◌⊎◌, List}
use Rattle.sector_disk.specs.Disk.{Sector, DiskFacts}
use Rattle.states.specs.State.{State}
use Rattle.states.specs.Changes.{next}
use Rattle.store.specs.Opened.{Opened, IsAt}
use Rattle.extents.specs.Used.{layout_of}
use Rattle.roots.specs.declared.root.Root.{Root}
use Rattle.roots.specs.declared.version.Version.TheVariants.{One}
use Rattle.store.specs.Stands.{Stands, StandsOld, StandsBy, catalogues_of, used}
use Rattle.store.specs.Taken.{AreTaken}

-- the state after an upgrade: the same libraries and preloads, with the next generation
abbrev pub upgraded : State → State
upgraded s = next s s.libraries s.preloads

-- these sectors hold no state by the rules of version 1
abbrev pub IsNotOld : List Sector → Type 0
IsNotOld m = (s : State) → StandsOld m s → ⊥

-- If these sectors held the state by the rules of version 2, the store is at this state. If they held it by
-- the rules of version 1, the store is at the upgraded state.
abbrev pub IsUpgradeOf : {D : Type 0} → (D → DiskFacts) → Opened D → List Sector → State → Type 0
IsUpgradeOf facts store m s = (Stands m s × IsAt facts store s) ⊎ (StandsOld m s × IsAt facts store (upgraded s))

-- The store has the entries with which the sectors `m` held the state `s` by the rules of version
-- 1. The sectors of the store's catalogues weren't in use then: each catalogue is in the lowest
-- sector that was unused at its turn.
pub record IsRelistedFrom {D : Type 0} (m : List Sector) (s : State) (store : Opened D) : Type 0 where
  pub root : Root
  pub stood : StandsBy One m root store.entries s
  pub taken : AreTaken (layout_of root.sectors (used root store.entries)) (catalogues_of store.root)
