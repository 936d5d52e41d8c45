-- The progress of holding all byte strings.
use Rattle.std.specs.Prelude.{◌≡◌, ℕ, ◌+◌, ◌<◌, List, length, slice_index_or, Result, IfOk, IfErr}
use Rattle.std.specs.Global.{Vec}
use Rattle.sector_disk.specs.Disk.{DiskFacts}
use Rattle.states.specs.State.{Library, State}
use Rattle.store.specs.declared.placed_entry.PlacedEntry.{PlacedEntry}
use Rattle.store.specs.declared.refusal.StoreRefusal.{StoreRefusal}
use Rattle.store.specs.declared.refusal.StoreRefusal.TheVariants.{OutOfMemory}
use Rattle.store.specs.Holds.{IsHeldBy, holders_of, AreFlagged, HeldIs, KeepsHeld}
use Rattle.store.specs.Opened.{Opened, IsAt}
use Rattle.store.specs.Stands.{no_library}
use Rattle.snapshots.specs.Snapshot.{times}

-- all held byte strings are still held with the same bytes, and everything else in the store is unchanged
pub record StaysBeside {D : Type 0} (facts : D → DiskFacts) (old new : Opened D) : Type 0 where
  pub others : (sector : ℕ) (library : Library) → HeldIs facts old sector library → HeldIs facts new sector library
  pub holds : (sector : ℕ) (placed : PlacedEntry) → IsHeldBy old.held sector placed → IsHeldBy new.held sector placed
  pub flags : AreFlagged new
  pub kept : (new.disk ≡ old.disk) × (new.root ≡ old.root) × (new.entries ≡ old.entries) × (new.failed ≡ old.failed)
  pub same : (s : State) → IsAt facts old s → IsAt facts new s

-- The handles hold the first `count` byte strings of a store.
pub record HoldsFirst {D : Type 0} (facts : D → DiskFacts) (old new : Opened D) (count : ℕ) (handles : List ℕ) : Type 0 where
  pub size : length handles ≡ count
  pub each : (i : ℕ) (d : PlacedEntry) → i < count → IsHeldBy new.held (slice_index_or handles i 0) (slice_index_or old.entries i d)
  pub libraries : (s : State) → IsAt facts old s → (i : ℕ) → i < count
      → HeldIs facts new (slice_index_or handles i 0) (slice_index_or s.libraries i no_library)
  pub holders : (sector : ℕ) → holders_of new.held sector ≡ holders_of old.held sector + times sector handles
  pub beside : StaysBeside facts old new

-- Each byte string has one more holder; or memory was refused, and the holders are the same as
-- before.
pub record HoldsAll {D : Type 0} (facts : D → DiskFacts) (old new : Opened D) (result : Result (Vec ℕ) StoreRefusal) : Type 0 where
  pub ok : IfOk result (λ handles. HoldsFirst facts old new (length old.entries) handles.items)
  pub err : IfErr result (λ e. (e ≡ OutOfMemory) × KeepsHeld facts old new)
  pub beside : StaysBeside facts old new
