-- All byte strings of a store as they were at one moment: the effects of taking a snapshot and of
-- releasing it.
use Rattle.std.specs.Prelude.{◌≡◌, ◌↔◌, ◌⊎◌, ℕ, ◌+◌, ◌-◌, ◌<◌, ◌==◌}
use Rattle.std.specs.Prelude.{List, length, slice_index_or, IsTrue, Result, Err, IfOk, IfErr, OnErr}
use Rattle.std.specs.List.{count_by}
use Rattle.sector_disk.specs.Disk.{DiskFacts}
use Rattle.roots.specs.Root.{listed_preloads}
use Rattle.states.specs.State.{Library, State}
use Rattle.store.specs.declared.holds.HeldRow.{HeldRow}
use Rattle.store.specs.declared.placed_entry.PlacedEntry.{PlacedEntry}
use Rattle.store.specs.declared.refusal.StoreRefusal.{StoreRefusal}
use Rattle.store.specs.declared.refusal.StoreRefusal.TheVariants.{Reopen, OutOfMemory}
use Rattle.store.specs.Holds.{IsHeldBy, holders_of, AreFlagged, HeldIs, KeepsHeld}
use Rattle.store.specs.NameOrder.{IsOrderOf, entry_names}
use Rattle.store.specs.Opened.{Opened, IsAt}
use Rattle.store.specs.Stands.{no_library}

-- the data of a snapshot: a handle for each byte string, the positions of the byte strings in the order
-- of their names, and the positions of the preloads
pub record Taken : Type 0 where
  pub handles : List ℕ
  pub order : List ℕ
  pub preloads : List ℕ

-- the number of times that `sector` is in the list `handles`
abbrev pub times : ℕ → List ℕ → ℕ
times sector handles = count_by (λ handle. handle == sector) handles

-- each of these entries is held by the handle at its position
pub record AreHeldBy (held : List HeldRow) (handles : List ℕ) (entries : List PlacedEntry) : Type 0 where
  pub count : length handles ≡ length entries
  pub each : (i : ℕ) (d : PlacedEntry) → i < length entries → IsHeldBy held (slice_index_or handles i 0) (slice_index_or entries i d)

-- The snapshot holds each of the entries `entries`, and its `order` is the order of their names.
pub record IsTakenOf (table : List HeldRow) (snapshot : Taken) (entries : List PlacedEntry) : Type 0 where
  pub held : AreHeldBy table snapshot.handles entries
  pub order : IsOrderOf (entry_names entries) snapshot.order

-- In every mixture of the disk, the held byte strings are these libraries.
pub record AreHeldAs {D : Type 0} (facts : D → DiskFacts) (store : Opened D) (handles : List ℕ) (libraries : List Library) : Type 0 where
  pub count : length handles ≡ length libraries
  pub each : (i : ℕ) → i < length libraries → HeldIs facts store (slice_index_or handles i 0) (slice_index_or libraries i no_library)

-- The snapshot was taken of the store `taken`. In the store `now` it still holds the byte strings that `taken` had.
pub record IsSnapshotOf {D : Type 0} (facts : D → DiskFacts) (taken now : Opened D) (snapshot : Taken) : Type 0 where
  pub entries : IsTakenOf now.held snapshot taken.entries
  pub preloads : snapshot.preloads ≡ listed_preloads taken.root
  pub libraries : (s : State) → IsAt facts taken s → IsTrue (facts now.disk).honest × AreHeldAs facts now snapshot.handles s.libraries

-- A snapshot of the store was taken, and each byte string has one more holder; or the call refused,
-- and the holders are the same as before. No call of the disk was made.
pub record Takes {D : Type 0} (facts : D → DiskFacts) (old new : Opened D) (result : Result Taken StoreRefusal) : Type 0 where
  pub ok : IfOk result (λ snapshot. IsSnapshotOf facts old new snapshot)
  pub holders : IfOk result (λ snapshot. (sector : ℕ) → holders_of new.held sector ≡ holders_of old.held sector + times sector snapshot.handles)
  pub unheld : OnErr result ((sector : ℕ) → holders_of new.held sector ≡ holders_of old.held sector)
  -- after a refusal, exactly the same byte strings are held as before, each by the same number of
  -- holders
  pub refused : OnErr result (KeepsHeld facts old new)
  pub others : (sector : ℕ) (library : Library) → HeldIs facts old sector library → HeldIs facts new sector library
  pub holds : (sector : ℕ) (placed : PlacedEntry) → IsHeldBy old.held sector placed → IsHeldBy new.held sector placed
  pub flags : AreFlagged new
  pub kept : (new.disk ≡ old.disk) × (new.root ≡ old.root) × (new.entries ≡ old.entries) × (new.failed ≡ old.failed)
  pub same : (s : State) → IsAt facts old s → IsAt facts new s
  pub reopen : (result ≡ Err Reopen) ↔ IsTrue old.failed
  pub refusals : IfErr result (λ e. (e ≡ Reopen) ⊎ (e ≡ OutOfMemory))

-- The byte strings of all `handles` were released, and nothing else changed.
pub record LetsAllGo {D : Type 0} (facts : D → DiskFacts) (old new : Opened D) (handles : List ℕ) : Type 0 where
  pub holders : (sector : ℕ) → holders_of new.held sector ≡ holders_of old.held sector - times sector handles
  pub others : (sector : ℕ) (library : Library) → 0 < holders_of new.held sector → HeldIs facts old sector library → HeldIs facts new sector library
  pub holds : (sector : ℕ) (placed : PlacedEntry)
      → IsHeldBy new.held sector placed ↔ (IsHeldBy old.held sector placed × (0 < holders_of new.held sector))
  pub flags : AreFlagged new
  pub kept : (new.disk ≡ old.disk) × (new.root ≡ old.root) × (new.entries ≡ old.entries) × (new.failed ≡ old.failed)
  pub same : (s : State) → IsAt facts old s → IsAt facts new s
