-- Several calls of an honest file, one after the other.
use Rattle.std.specs.Prelude.{◌≡◌, ◌<◌, ◌≤◌, ◌+◌, ◌⊎◌, ℕ, false, List, Result, OnErr}
use Rattle.sector_disk.specs.Disk.{Sector, sector}
use Rattle.file_disk.specs.SectorFile.{FileFacts, MayHave, IsGivenTo, IsOldOrGiven}
use Rattle.file_disk.specs.declared.read_ahead.ReadAhead.{ReadAhead}
use Rattle.file_disk.specs.ReadAhead.{KeepsOf}

-- From `old` to `new`, the medium had at each moment only contents that `Allowed` allows.
pub record StaysWithin (Allowed : ℕ → Sector → Type 0) (old new : FileFacts) : Type 0 where
  pub sectors : new.sectors ≡ old.sectors
  pub later : old.time ≤ new.time
  pub failures : old.failures ≤ new.failures
  pub past : (u k : ℕ) (c : Sector) → u ≤ old.time → new.may_have u k c → old.may_have u k c
  pub each : (u k : ℕ) (c : Sector) → old.time ≤ u → u ≤ new.time → new.may_have u k c → Allowed k c

-- writes of the sectors `given`, to sector `at` and the sectors after it, have transferred the first
-- `done` of them; some sectors may have been written more than once
pub record IsWrittenAt (at : ℕ) (given : List Sector) (done : ℕ) (old new : FileFacts) : Type 0 where
  pub within : StaysWithin (λ k c. MayHave old k c ⊎ IsGivenTo at given k c) old new
  pub trusted : new.sync_failed ≡ false
  pub now : IsOldOrGiven at given done old.now new.now

-- sectors were read from sector `at` on, and `count` of them were returned
pub record IsReadAt (at : ℕ) (into : List Sector) (count : ℕ) (old new : FileFacts) : Type 0 where
  pub within : StaysWithin (MayHave old) old new
  pub trusted : new.sync_failed ≡ false
  pub now : new.now ≡ old.now
  pub read : (i : ℕ) → i < count → sector into i ≡ sector old.now (at + i)

-- The read-ahead buffer has the contents that were read, or a call failed.
pub record IsFilled {T E : Type 0} (old new : FileFacts) (read_ahead : ReadAhead) (result : Result T E) : Type 0 where
  pub within : StaysWithin (MayHave old) old new
  pub trusted : new.sync_failed ≡ false
  pub now : new.now ≡ old.now
  pub kept : KeepsOf read_ahead old.now
  pub err : OnErr result (old.failures < new.failures)
