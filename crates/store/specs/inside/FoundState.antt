-- The data that a store finds on its disk when nobody holds a byte string.
use Rattle.std.specs.Prelude.{◌≡◌, ◌+◌, ◌<◌, ℕ, Bool, List, [], length, IsTrue, Result, IfOk, IfErr, OnOk}
use Rattle.sector_disk.specs.Disk.{Sector, DiskFacts, IsSynced, AreCallsExactly, AreCallsAtMost}
use Rattle.roots.specs.Limits.{most_catalogues}
use Rattle.roots.specs.declared.root.Root.{Root}
use Rattle.states.specs.Limits.{most_libraries}
use Rattle.store.specs.declared.found_state.FoundState.{FoundState}
use Rattle.store.specs.declared.placed_entry.PlacedEntry.{PlacedEntry}
use Rattle.store.specs.declared.refusal.StoreRefusal.{StoreRefusal}
use Rattle.store.specs.declared.refusal.StoreRefusal.TheVariants.{Device}
use Rattle.store.specs.Stands.{IsIntact, catalogues_of, entry_sectors}
use Rattle.store.specs.inside.Kept.{IsKept}
use Rattle.store.specs.inside.NameIndex.{Index, IsIndex}
use Rattle.store.specs.inside.Reading.{AreReadsBehindSync}

pub record IsFound (root : Root) (entries : List PlacedEntry) (sectors : List ℕ) (index : Index) (layout : List Bool) : Type 0 where
  pub kept : IsKept root entries [] layout
  pub indexed : IsIndex entries index
  -- the sectors of the entries, in the order of the entries
  pub listed : sectors ≡ entry_sectors entries

-- The contents of a disk, honest or not, were found. The call made `before` calls, and then one for
-- each catalogue and each entry.
pub record IsFoundAfter (before : ℕ) (old new : DiskFacts) (result : Result FoundState StoreRefusal) : Type 0 where
  pub calls : AreCallsAtMost (before + most_catalogues + most_libraries) old new
  pub all_calls : IfOk result (λ found. AreCallsExactly (before + length (catalogues_of found.root) + length found.entries.items) old new)
  pub kept : IfOk result (λ found. IsFound found.root found.entries.items found.sectors.items found.index found.layout × (found.root.sectors ≡ old.sectors))
  pub device : IfErr result (λ e. e ≡ Device → old.failures < new.failures)

-- The contents of a disk, which a stop may have left, were found, or the disk was refused with a
-- refusal that `Refuses` allows.
pub record Finds (Refuses : List Sector → StoreRefusal → Type 0) (old new : DiskFacts) (result : Result FoundState StoreRefusal) : Type 0 where
  pub found : IsFoundAfter 3 old new result
  pub reads : IsTrue old.honest → AreReadsBehindSync old new
  pub synced : IsTrue old.honest → OnOk result (IsSynced new)
  pub intact : IsTrue old.honest → IfOk result (λ found. IsIntact old.now found.root found.entries.items)
  pub refused : IsTrue old.honest → IfErr result (Refuses old.now)
