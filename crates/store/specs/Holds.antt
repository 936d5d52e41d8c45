-- Held byte strings: the sectors that only they use, the guarantees for their holders, and the
-- effects of holding, reading and releasing a byte string.
use Rattle.std.specs.Prelude.{◌≡◌, ◌≢◌, ◌↔◌, ◌⊎◌, ℕ, ◌+◌, ◌-◌, ◌<◌, ◌==◌, true, Bool, List, [], ◌++◌, length}
use Rattle.std.specs.Prelude.{slice_index_or, sum_by, All, AllPairs, Contains, IsTrue, IsFalse, Result, Err, IfOk, IfErr, OnOk, OnErr, if◌then◌else◌}
use Rattle.std.specs.Global.{Vec}
use Rattle.std.specs.Int.{div_ceil}
use Rattle.std.specs.List.{flat_map}
use Rattle.sector_disk.specs.Disk.{Sector, DiskFacts, sector_bytes, Mixture, IsUnchanged, LeavesOnly, AreCalls, AreCallsExactly, AreCallsAtMost}
use Rattle.extents.specs.Used.{layout_of}
use Rattle.roots.specs.declared.root.Root.{Root}
use Rattle.states.specs.State.{Library, State}
use Rattle.store.specs.declared.placed_entry.PlacedEntry.{PlacedEntry}
use Rattle.store.specs.declared.holds.HeldRow.{HeldRow}
use Rattle.store.specs.declared.refusal.StoreRefusal.{StoreRefusal}
use Rattle.store.specs.declared.refusal.StoreRefusal.TheVariants.{Device, Reopen, Damaged, OutOfMemory}
use Rattle.store.specs.Stands.{sectors_of, used, library_of, no_library}
use Rattle.store.specs.Opened.{Opened, IsAt}

-- Each held byte string has one row: no two rows have the same entry sector.
abbrev pub HaveOwnRows : List HeldRow → Type 0
HaveOwnRows held = AllPairs (λ a b. a.placed.at ≢ b.placed.at) held

-- the sectors that only a held byte string uses: all its sectors if the state no longer lists the
-- byte string, and otherwise none
abbrev pub own_sectors : HeldRow → List ℕ
own_sectors hold = if hold.listed then [] else sectors_of hold.placed

-- the sectors that only held byte strings use, one by one
abbrev pub lone_sectors : List HeldRow → List ℕ
lone_sectors held = flat_map own_sectors held

-- all sectors in use after the roots, one by one: those that the state uses, and those that only
-- held byte strings use
abbrev pub in_use : Root → List PlacedEntry → List HeldRow → List ℕ
in_use root entries held = used root entries ++ lone_sectors held

-- the layout of the store's disk, in which exactly the sectors in use are claimed
abbrev pub layout_in_use : {D : Type 0} → Opened D → List Bool
layout_in_use store = layout_of store.root.sectors (in_use store.root store.entries store.held)

-- the number of sectors that the state can use: all except those that only held byte strings use
abbrev pub room_of : {D : Type 0} → Opened D → ℕ
room_of store = store.root.sectors - length (lone_sectors store.held)

-- the number of holders of the byte string whose entry is in `sector`; no other held byte string
-- has its entry in this sector
abbrev pub holders_of : List HeldRow → ℕ → ℕ
holders_of held sector = sum_by (λ hold. if hold.placed.at == sector then hold.holders else 0) held

-- `placed` is the entry of the held byte string whose entry is in `sector`
pub record IsHeldBy (held : List HeldRow) (sector : ℕ) (placed : PlacedEntry) : Type 0 where
  pub place : ℕ
  pub inside : place < length held
  pub is : (d : HeldRow) → (slice_index_or held place d).placed ≡ placed
  pub its : placed.at ≡ sector

-- The byte string whose entry is in `sector` is held, and it is `library` in every mixture of the disk.
pub record IsHeldAs (disk : DiskFacts) (held : List HeldRow) (sector : ℕ) (library : Library) : Type 0 where
  pub placed : PlacedEntry
  pub by : IsHeldBy held sector placed
  pub stands : (m : List Sector) → Mixture disk m → library_of m placed ≡ library

-- the byte string whose entry is in `sector` is held in this store, and it is `library` in every mixture
abbrev pub HeldIs : {D : Type 0} → (D → DiskFacts) → Opened D → ℕ → Library → Type 0
HeldIs facts store sector library = IsHeldAs (facts store.disk) store.held sector library

-- On any disk, held byte strings keep their holders. On an honest disk, they also keep their bytes.
pub record KeepsHolders (before after : DiskFacts) (old new : List HeldRow) : Type 0 where
  pub holders : (sector : ℕ) → holders_of new sector ≡ holders_of old sector
  pub bytes : IsTrue before.honest → (sector : ℕ) (library : Library) → IsHeldAs before old sector library → IsHeldAs after new sector library
  pub holds : (sector : ℕ) (placed : PlacedEntry) → IsHeldBy old sector placed ↔ IsHeldBy new sector placed
  pub none : old ≡ [] → new ≡ []

-- from `old` to `new`, held byte strings keep their holders; on an honest disk, they also keep their
-- bytes
abbrev pub KeepsHeld : {D : Type 0} → (D → DiskFacts) → Opened D → Opened D → Type 0
KeepsHeld facts old new = KeepsHolders (facts old.disk) (facts new.disk) old.held new.held

-- A held byte string is marked as listed if and only if the state lists it.
abbrev pub AreFlagged : {D : Type 0} → Opened D → Type 0
AreFlagged store = All (λ hold. (hold.listed ≡ true) ↔ Contains store.entries hold.placed) store.held

-- Each held byte string has one row and at least one holder, and it is marked as listed if and only
-- if the state lists it. So the sectors that only held byte strings use are those of the rows that
-- aren't marked, each counted once.
pub record AreHolds {D : Type 0} (store : Opened D) : Type 0 where
  pub rows : HaveOwnRows store.held
  pub holders : (sector : ℕ) (placed : PlacedEntry) → IsHeldBy store.held sector placed → 0 < holders_of store.held sector
  pub flags : AreFlagged store

-- The byte string at `position` has one more holder, for which its present bytes are kept. No call
-- of the disk is made, and no sector is claimed.
pub record TakesHold {D : Type 0} (facts : D → DiskFacts) (old new : Opened D) (position : ℕ) (result : Result ℕ StoreRefusal) : Type 0 where
  pub ok : (s : State) → IsAt facts old s → IfOk result (λ held. HeldIs facts new held (slice_index_or s.libraries position no_library))
  pub same : (s : State) → IsAt facts old s → IsAt facts new s
  -- the clauses from here on hold on any disk, honest or not
  pub hold : IfOk result (λ held. (d : PlacedEntry) → IsHeldBy new.held held (slice_index_or old.entries position d))
  pub holders : IfOk result (λ held. (sector : ℕ) → holders_of new.held sector ≡ holders_of old.held sector + (if held == sector then 1 else 0))
  pub others : (sector : ℕ) (library : Library) → HeldIs facts old sector library → HeldIs facts new sector library
  pub holds : (sector : ℕ) (placed : PlacedEntry) → IsHeldBy old.held sector placed → IsHeldBy new.held sector placed
  pub lone : lone_sectors new.held ≡ lone_sectors old.held
  pub flags : AreFlagged new
  pub kept : (new.disk ≡ old.disk) × (new.root ≡ old.root) × (new.entries ≡ old.entries) × (new.failed ≡ old.failed)
  pub reopen : (result ≡ Err Reopen) ↔ IsTrue old.failed
  pub err : OnErr result (new ≡ old)
  pub refusals : IfErr result (λ e. (e ≡ Reopen) ⊎ (e ≡ OutOfMemory))

-- The held byte string was read. Each sector of the byte string was read once, and nothing was written. The
-- call refuses with Damaged if nobody holds the byte string in this store.
pub record ReadsHeld {D : Type 0} (facts : D → DiskFacts) (old new : Opened D) (held : ℕ) (result : Result (Vec ℕ) StoreRefusal) : Type 0 where
  -- a stop at any moment leaves only contents that a stop could leave before the call
  pub any_moment : IsTrue (facts old.disk).honest → LeavesOnly (facts old.disk) (facts new.disk) (Mixture (facts old.disk))
  pub ok : IsTrue (facts old.disk).honest → (library : Library) → HeldIs facts old held library → IfOk result (λ bytes. bytes.items ≡ library.bytes)
  -- reads return the same contents as before, and a stop may leave the same contents as before
  pub unchanged : IsTrue (facts old.disk).honest → IsUnchanged (facts old.disk) (facts new.disk)
  pub others : KeepsHeld facts old new
  pub same : (s : State) → IsAt facts old s → IsAt facts new s
  -- on any disk, honest or not, a failed read leaves `failed` as it was
  pub kept : (new.root ≡ old.root) × (new.entries ≡ old.entries) × (new.held ≡ old.held) × (new.failed ≡ old.failed)
  pub reopen : (result ≡ Err Reopen) ↔ IsTrue old.failed
  pub unknown : (result ≡ Err Damaged) ↔ (IsFalse old.failed × (holders_of old.held held ≡ 0))
  -- a held byte string is never refused with Damaged
  pub known : (placed : PlacedEntry) → IsHeldBy old.held held placed → IfErr result (λ e. e ≢ Damaged)
  pub refusals : IfErr result (λ e. (e ≡ Device) ⊎ (e ≡ Reopen) ⊎ (e ≡ Damaged) ⊎ (e ≡ OutOfMemory))
  pub device : IfErr result (λ e. e ≡ Device → (facts old.disk).failures < (facts new.disk).failures)
  pub untouched : IfErr result (λ e. e ≢ Device → new ≡ old)
  pub size : (placed : PlacedEntry) → IsHeldBy old.held held placed → IfOk result (λ bytes. length bytes.items ≡ placed.entry.file_length)
  pub all_calls : (placed : PlacedEntry) → IsHeldBy old.held held placed
      → OnOk result (AreCallsExactly (div_ceil placed.entry.file_length sector_bytes) (facts old.disk) (facts new.disk))
  pub calls : (placed : PlacedEntry) → IsHeldBy old.held held placed
      → AreCallsAtMost (div_ceil placed.entry.file_length sector_bytes) (facts old.disk) (facts new.disk)
  -- this clause also holds if nobody holds the byte string
  pub called : AreCalls (facts old.disk) (facts new.disk)

-- A holder released a byte string, and nothing else changed. If nobody held the byte string in this
-- store, nothing changed at all.
pub record LetsHoldGo {D : Type 0} (facts : D → DiskFacts) (old new : Opened D) (held : ℕ) : Type 0 where
  pub holders : (sector : ℕ) → holders_of new.held sector ≡ holders_of old.held sector - (if held == sector then 1 else 0)
  pub others : (sector : ℕ) (library : Library) → 0 < holders_of new.held sector → HeldIs facts old sector library → HeldIs facts new sector library
  pub holds : (sector : ℕ) (placed : PlacedEntry)
      → IsHeldBy new.held sector placed ↔ (IsHeldBy old.held sector placed × (0 < holders_of new.held sector))
  pub flags : AreFlagged new
  pub kept : (new.disk ≡ old.disk) × (new.root ≡ old.root) × (new.entries ≡ old.entries) × (new.failed ≡ old.failed)
  pub same : (s : State) → IsAt facts old s → IsAt facts new s
