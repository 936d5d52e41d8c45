-- The effect of reading a byte string, for each result of the read.
use Rattle.std.specs.Prelude.{◌≡◌, ◌≢◌, ◌↔◌, ◌⊎◌, ◌<◌, ℕ, length, slice_index_or, IsTrue, Result, Err, IfOk, IfErr, OnOk}
use Rattle.std.specs.Global.{Vec}
use Rattle.std.specs.Int.{div_ceil}
use Rattle.sector_disk.specs.Disk.{DiskFacts, sector_bytes, Mixture, IsUnchanged, LeavesOnly, AreCallsExactly, AreCallsAtMost}
use Rattle.roots.specs.declared.version.Version.{Version}
use Rattle.store.specs.declared.placed_entry.PlacedEntry.{PlacedEntry}
use Rattle.store.specs.declared.refusal.StoreRefusal.{StoreRefusal}
use Rattle.store.specs.declared.refusal.StoreRefusal.TheVariants.{Device, Reopen, OutOfMemory}
use Rattle.store.specs.Holds.{KeepsHeld}
use Rattle.store.specs.Opened.{Opened, IsAtBy}
use Rattle.store.specs.Stands.{no_library}
use Rattle.states.specs.State.{State}

-- The byte string at `position` was read, in a store of the version `version`. Each sector of the
-- byte string was read once, and nothing was written.
pub record ReadsBlob (version : Version) {D : Type 0} (facts : D → DiskFacts) (old new : Opened D) (position : ℕ)
    (result : Result (Vec ℕ) StoreRefusal) : Type 0 where
  -- a stop at any moment leaves only contents that a stop could leave before the call
  pub any_moment : IsTrue (facts old.disk).honest → LeavesOnly (facts old.disk) (facts new.disk) (Mixture (facts old.disk))
  pub ok : (s : State) → IsAtBy version facts old s → IfOk result (λ bytes. bytes.items ≡ (slice_index_or s.libraries position no_library).bytes)
  -- reads return the same contents as before, and a stop may leave the same contents as before
  pub unchanged : IsTrue (facts old.disk).honest → IsUnchanged (facts old.disk) (facts new.disk)
  pub same : (s : State) → IsAtBy version facts old s → IsAtBy version facts new s
  -- on any disk, honest or not, a failed read leaves `failed` as it was
  pub kept : (new.root ≡ old.root) × (new.entries ≡ old.entries) × (new.failed ≡ old.failed)
  pub table : new.held ≡ old.held
  pub held : KeepsHeld facts old new
  pub size : (d : PlacedEntry) → IfOk result (λ bytes. length bytes.items ≡ (slice_index_or old.entries position d).entry.file_length)
  pub reopen : (result ≡ Err Reopen) ↔ IsTrue old.failed
  pub refusals : IfErr result (λ e. (e ≡ Device) ⊎ (e ≡ Reopen) ⊎ (e ≡ OutOfMemory))
  pub device : IfErr result (λ e. e ≡ Device → (facts old.disk).failures < (facts new.disk).failures)
  pub untouched : IfErr result (λ e. e ≢ Device → new ≡ old)
  pub all_calls : (d : PlacedEntry)
      → OnOk result (AreCallsExactly (div_ceil (slice_index_or old.entries position d).entry.file_length sector_bytes) (facts old.disk) (facts new.disk))
  pub calls : (d : PlacedEntry)
      → AreCallsAtMost (div_ceil (slice_index_or old.entries position d).entry.file_length sector_bytes) (facts old.disk) (facts new.disk)
