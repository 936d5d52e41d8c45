-- A store in memory, and the definition of the state that a store is at.
use Rattle.std.specs.Prelude.{ℕ, ◌+◌, Bool, List, length, IsTrue, IsFalse, Result, Ok, Err}
use Rattle.sector_disk.specs.Disk.{Sector, DiskFacts, Mixture}
use Rattle.roots.specs.declared.root.Root.{Root}
use Rattle.roots.specs.declared.version.Version.{Version}
use Rattle.roots.specs.declared.version.Version.TheVariants.{One, Two}
use Rattle.store.specs.declared.placed_entry.PlacedEntry.{PlacedEntry}
use Rattle.store.specs.declared.refusal.StoreRefusal.{StoreRefusal}
use Rattle.states.specs.State.{State}
use Rattle.store.specs.declared.holds.HeldRow.{HeldRow}
use Rattle.store.specs.Stands.{StandsBy, catalogues_of}

-- the data of a store: its disk, the current root, its entries with their sectors, the held byte strings,
-- and whether a write or a sync failed
pub record Opened (D : Type 0) : Type 0 where
  pub disk : D
  pub root : Root
  pub entries : List PlacedEntry
  pub held : List HeldRow
  pub failed : Bool

-- The disk is honest, no write or sync has failed, and every mixture of the disk holds the state `s` by
-- a root of the version `version`.
pub record IsAtBy (version : Version) {D : Type 0} (facts : D → DiskFacts) (store : Opened D) (s : State) : Type 0 where
  pub honest : IsTrue (facts store.disk).honest
  pub usable : IsFalse store.failed
  pub stands : (m : List Sector) → Mixture (facts store.disk) m → StandsBy version m store.root store.entries s

-- a store of version 2 is at a state
abbrev pub IsAt : {D : Type 0} → (D → DiskFacts) → Opened D → State → Type 0
IsAt facts store s = IsAtBy Two facts store s

-- a store of version 1 is at a state
abbrev pub IsOldAt : {D : Type 0} → (D → DiskFacts) → Opened D → State → Type 0
IsOldAt facts store s = IsAtBy One facts store s

-- the number of calls that open the store: a sync, and a read of each of the two root sectors, of each catalogue and of
-- each entry
abbrev pub calls_to_open : {D : Type 0} → Opened D → ℕ
calls_to_open store = 3 + length (catalogues_of store.root) + length store.entries

-- the disk of the store, or the disk that the refusal returned
abbrev pub disk_after : {D : Type 0} → Result (Opened D) (StoreRefusal × D) → D
disk_after (Ok store) = store.disk
disk_after (Err refused) = refused.1
