-- The effect of reading byte strings of a store: no result of a read changes anything.
use Rattle.std.specs.Prelude.{◌≡◌, ℕ, IsTrue}
use Rattle.std.specs.Int.{div_ceil}
use Rattle.sector_disk.specs.Disk.{sector_bytes, DiskFacts, Mixture, IsUnchanged, LeavesOnly, AreCalls}
use Rattle.roots.specs.declared.version.Version.{Version}
use Rattle.roots.specs.declared.version.Version.TheVariants.{Two}
use Rattle.states.specs.State.{State}
use Rattle.store.specs.declared.placed_entry.PlacedEntry.{PlacedEntry}
use Rattle.store.specs.Opened.{Opened, IsAtBy}

-- the number of sectors that the byte string of an entry takes
abbrev pub file_sectors : PlacedEntry → ℕ
file_sectors placed = div_ceil placed.entry.file_length sector_bytes

-- The store was only read. Its state in the version `version`, the mixtures that a stop may leave,
-- and the store's data in memory are as before.
pub record IsReadBy (version : Version) {D : Type 0} (facts : D → DiskFacts) (old new : Opened D) : Type 0 where
  pub leaves : IsTrue (facts old.disk).honest → LeavesOnly (facts old.disk) (facts new.disk) (Mixture (facts old.disk))
  pub same : (s : State) → IsAtBy version facts old s → IsAtBy version facts new s
  pub unchanged : IsTrue (facts old.disk).honest → IsUnchanged (facts old.disk) (facts new.disk)
  pub root : new.root ≡ old.root
  pub entries : new.entries ≡ old.entries
  pub held : new.held ≡ old.held
  pub failed : new.failed ≡ old.failed
  pub calls : AreCalls (facts old.disk) (facts new.disk)

-- a store of version 2 was only read
abbrev pub IsRead : {D : Type 0} → (D → DiskFacts) → Opened D → Opened D → Type 0
IsRead facts old new = IsReadBy Two facts old new
