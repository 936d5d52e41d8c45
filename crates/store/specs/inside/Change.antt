-- A planned change: the sectors that it stages, and the state that the disk holds after the change.
use Rattle.std.specs.Prelude.{◌≡◌, ◌⊎◌, ℕ, ◌+◌, ◌*◌, List, [], ◌++◌, length, set, Contains, Result, OnOk}
use Rattle.std.specs.List.{flat_map}
use Rattle.sector_disk.specs.Disk.{Sector, sector, sector_bytes, DiskFacts, Mixture, LeavesOnly}
use Rattle.sector_disk.specs.declared.disk.DiskFault.{DiskFault}
use Rattle.extents.specs.Extent.{places, sector_count}
use Rattle.passes.specs.Bytes.{bytes_at, padded}
use Rattle.roots.specs.declared.root.Root.{Root}
use Rattle.roots.specs.declared.version.Version.{Version}
use Rattle.roots.specs.declared.version.Version.TheVariants.{Two}
use Rattle.roots.specs.Root.{root_bytes}
use Rattle.roots.specs.Choice.{slot_of}
use Rattle.roots.specs.Entry.{EntryHasSpelling, SpellsEntry}
use Rattle.states.specs.State.{State}
use Rattle.store.specs.declared.placed_entry.PlacedEntry.{PlacedEntry}
use Rattle.store.specs.declared.change.Staged.{Staged}
use Rattle.store.specs.declared.change.Staged.TheVariants.{Nothing, Catalogues, Put}
use Rattle.store.specs.declared.change.Change.{Change}
use Rattle.store.specs.Stands.{StandsBy, StandsAs, Stands, AreCatalogued, extents_of, sectors_of, used}
use Rattle.store.specs.inside.Catalogues.{CanBeCatalogued}
use Rattle.store.specs.inside.Room.{HavePlaces, HasPlace}

-- the staged sectors
abbrev pub staged_sectors : Staged → List ℕ
staged_sectors Nothing = []
staged_sectors (Catalogues catalogues) = catalogues
staged_sectors (Put put catalogues) = sectors_of put ++ catalogues

-- the number of calls that staging takes: a write for each staged sector, and a sync; none if
-- nothing is staged
abbrev pub staged_calls : Staged → ℕ
staged_calls Nothing = 0
staged_calls (Catalogues catalogues) = length catalogues + 1
staged_calls (Put put catalogues) = sector_count (extents_of put.entry) + length catalogues + 2

-- if a byte string is put, its entry can be encoded
abbrev pub HasSpelling : Staged → Type 0
HasSpelling Nothing = Unit
HasSpelling (Catalogues catalogues) = Unit
HasSpelling (Put put catalogues) = EntryHasSpelling put.entry

-- The staged sectors fit on a disk of `sectors` sectors, and the number of staged catalogues is the number
-- that these entry sectors need.
abbrev pub CanBeStaged : ℕ → Staged → List ℕ → Type 0
CanBeStaged sectors Nothing listed = Unit
CanBeStaged sectors (Catalogues catalogues) listed = HavePlaces sectors catalogues × CanBeCatalogued (length catalogues) listed
CanBeStaged sectors (Put put catalogues) listed = HasPlace sectors put catalogues × CanBeCatalogued (length catalogues) listed

-- if a byte string is put, the sectors of its extents hold its bytes, followed by zeros
abbrev pub HasBytes : List Sector → Staged → List ℕ → Type 0
HasBytes m Nothing bytes = Unit
HasBytes m (Catalogues catalogues) bytes = Unit
HasBytes m (Put put catalogues) bytes =
    bytes_at m (places (extents_of put.entry)) ≡ padded (sector_bytes * sector_count (extents_of put.entry)) bytes

-- The sectors `m` have everything that is staged.
abbrev pub IsStaged : List Sector → Staged → (bytes listed : List ℕ) → Type 0
IsStaged m Nothing bytes listed = Unit
IsStaged m (Catalogues catalogues) bytes listed = AreCatalogued m catalogues listed
IsStaged m (Put put catalogues) bytes listed =
    HasBytes m (Put put catalogues) bytes × SpellsEntry (sector m put.at) put.entry × AreCatalogued m catalogues listed

-- No staged sector is a sector of these entries or of their bytes.
abbrev pub IsApartFrom : Staged → List PlacedEntry → Type 0
IsApartFrom staged written = (k : ℕ) → Contains (staged_sectors staged) k → Contains (flat_map sectors_of written) k → ⊥

-- A sync follows the earlier writes before the root is written: staging makes a sync, and if
-- nothing is staged, there were no earlier writes.
abbrev pub HasSync : Staged → (written : List PlacedEntry) → Type 0
HasSync Nothing written = written ≡ []
HasSync staged written = Unit

-- `m` and `now` have the same contents in the sectors of the entries `written` and of their bytes,
-- which were written before the change.
pub record AreWritten (now : List Sector) (written : List PlacedEntry) (m : List Sector) : Type 0 where
  pub each : (k : ℕ) → Contains (flat_map sectors_of written) k → sector m k ≡ sector now k

-- The change stages only sectors that `s` doesn't use and that weren't written before. If sectors
-- hold `s`, the staged contents, and the contents that were written before, then they hold `s'` as
-- soon as the next root is written.
pub record IsFollowed (version : Version) (root : Root) (entries : List PlacedEntry) (s : State) (now : List Sector) (written : List PlacedEntry)
    (change : Change) (bytes listed : List ℕ) (others : List PlacedEntry) (s' : State) : Type 0 where
  pub unused : (k : ℕ) → Contains (staged_sectors change.staged) k → Contains (used root entries) k → ⊥
  pub apart : IsApartFrom change.staged written
  pub synced : HasSync change.staged written
  pub stands : (m : List Sector) → StandsBy version m root entries s → IsStaged m change.staged bytes listed → AreWritten now written m
      → StandsBy Two (set m (slot_of change.root.generation) (root_bytes change.root)) change.root others s'

-- The state before a change, with its root and its entries; the entries that were written since
-- then, before the change; and the state after the change, with its entries.
pub record Transition : Type 0 where
  pub version : Version
  pub root : Root
  pub entries : List PlacedEntry
  pub before : State
  pub written : List PlacedEntry
  pub others : List PlacedEntry
  pub after : State

-- Every mixture of the disk holds the transition's state before the change, and the change makes the transition's state
-- after it.
pub record IsBegun (disk : DiskFacts) (change : Change) (bytes listed : List ℕ) (t : Transition) : Type 0 where
  pub stands : (m : List Sector) → Mixture disk m → StandsBy t.version m t.root t.entries t.before
  pub followed : IsFollowed t.version t.root t.entries t.before disk.now t.written change bytes listed t.others t.after

-- A change was carried out, or a call failed. For each transition that the change can make, a stop
-- at any moment leaves the state before the change or the state after it. If no call failed, every
-- mixture holds the state after it.
pub record IsCarriedOut (old new : DiskFacts) (change : Change) (bytes listed : List ℕ) (result : Result (Unit {0}) DiskFault) : Type 0 where
  pub any_moment : (t : Transition) → IsBegun old change bytes listed t → LeavesOnly old new (λ m. StandsAs t.version m t.before ⊎ Stands m t.after)
  pub done : (t : Transition) → IsBegun old change bytes listed t
      → OnOk result ((m : List Sector) → Mixture new m → StandsBy Two m change.root t.others t.after)
