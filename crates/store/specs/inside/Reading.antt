-- The effect of each step of reading a disk, and the refusals of each step.
use Rattle.std.specs.Prelude.{◌≡◌, ◌⊎◌, List, length}
use Rattle.sector_disk.specs.Disk.{Sector, sector, DiskFacts, Mixture, LeavesOnly, MayAddSync}
use Rattle.roots.specs.declared.root.Root.{Root}
use Rattle.roots.specs.Choice.{IsCurrent}
use Rattle.store.specs.declared.placed_entry.PlacedEntry.{PlacedEntry}
use Rattle.store.specs.declared.refusal.StoreRefusal.{StoreRefusal}
use Rattle.store.specs.declared.refusal.StoreRefusal.TheVariants.{NotFormatted, Damaged, Device, OutOfMemory}
use Rattle.store.specs.Opening.{HasRootMagic}
use Rattle.store.specs.Stands.{IsIntact}

-- A sync of an honest disk succeeded or failed, and after it the disk was only read. A stop at any
-- moment leaves only contents that a stop could leave before, and reads return the same contents as
-- before.
pub record AreReadsBehindSync (old new : DiskFacts) : Type 0 where
  pub leaves : LeavesOnly old new (Mixture old)
  pub now : new.now ≡ old.now
  pub log : MayAddSync old.log new.log

-- reading the current root of the sectors `m` may be refused with `refusal`
pub record RefusesRoot (m : List Sector) (refusal : StoreRefusal) : Type 0 where
  pub may : (refusal ≡ Device) ⊎ (refusal ≡ NotFormatted) ⊎ (refusal ≡ Damaged)
  pub unformatted : refusal ≡ NotFormatted → HasRootMagic m → ⊥
  pub formatted : refusal ≡ Damaged → HasRootMagic m
  pub damaged : refusal ≡ Damaged → (root : Root) → IsCurrent (sector m 0) (sector m 1) root → ⊥

-- the refusals of reading the list of a root, on any disk
abbrev pub IsRefusalOfList : StoreRefusal → Type 0
IsRefusalOfList refusal = (refusal ≡ Device) ⊎ (refusal ≡ Damaged) ⊎ (refusal ≡ OutOfMemory)

-- reading the entries of the current root `root` may be refused with `refusal`
pub record RefusesEntries (m : List Sector) (root : Root) (refusal : StoreRefusal) : Type 0 where
  pub may : IsRefusalOfList refusal
  pub damaged : refusal ≡ Damaged → (entries : List PlacedEntry) → IsIntact m root entries → ⊥
  pub memory : refusal ≡ OutOfMemory → root.sectors ≡ length m
