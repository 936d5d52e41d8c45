-- A file of sectors: its facts, and the effect of each call of an honest file (POSIX: pread, pwrite, fsync;
-- and the behaviour of kernels if an fsync fails).
use Rattle.std.specs.Prelude.{◌≡◌, ◌<◌, ◌≤◌, ◌+◌, ◌==◌, ◌↔◌, ◌⊎◌, ℕ, Bool, false, true, List, [], length, Result, Ok, Err, IfOk, OnOk, OnErr, is_err, if◌then◌else◌}
use Rattle.sector_disk.specs.Disk.{Sector, sector, IsWhole}

-- The facts of a file of sectors. Its moments are 0 to `time`, and each call makes one more.
pub record FileFacts : Type 1 where
  pub sectors : ℕ
  pub time : ℕ
  -- the number of calls that have failed
  pub failures : ℕ
  -- whether a sync has failed
  pub sync_failed : Bool
  -- the contents that reads return
  pub now : List Sector
  -- the set of a sector at a moment: the contents that the medium may have there
  pub may_have : ℕ → ℕ → Sector → Type 0

-- the medium may have this content in sector k now: it is in the sector's set
abbrev pub MayHave : FileFacts → ℕ → Sector → Type 0
MayHave file k c = file.may_have file.time k c

-- the medium may have the sectors `m` at this moment: each sector, independently of the others, has
-- a content of its set
pub record MediumAt (file : FileFacts) (moment : ℕ) (m : List Sector) : Type 0 where
  pub size : length m ≡ file.sectors
  pub each : (k : ℕ) → k < file.sectors → file.may_have moment k (sector m k)

-- the number of sectors that a read or a write moved
abbrev pub moved : {E : Type 0} → Result ℕ E → ℕ
moved (Ok n) = n
moved (Err e) = 0

-- `given` is written from sector `at` on, and c is the content that it has for sector k
abbrev pub IsGivenTo : ℕ → List Sector → ℕ → Sector → Type 0
IsGivenTo at given k c = (i : ℕ) × (i < length given) × (k ≡ at + i) × (c ≡ sector given i)

-- One call: the time is greater by one, and a failure is counted. The number of sectors, and the
-- contents that the medium might have had at each earlier moment, stay the same.
pub record IsFileCall (failed : Bool) (old new : FileFacts) : Type 0 where
  pub sectors : new.sectors ≡ old.sectors
  pub time : new.time ≡ old.time + 1
  pub failures : new.failures ≡ (if failed then old.failures + 1 else old.failures)
  pub past : (u k : ℕ) (c : Sector) → u ≤ old.time → new.may_have u k c ↔ old.may_have u k c

-- no sector's set grows, and `sync_failed` stays the same
pub record HasNoMore (old new : FileFacts) : Type 0 where
  pub medium : (k : ℕ) (c : Sector) → MayHave new k c → MayHave old k c
  pub sync_failed : new.sync_failed ≡ old.sync_failed

-- The call returns the number of sectors. If the number can't be determined, the call fails.
pub record IsCounted {E : Type 0} (old new : FileFacts) (result : Result ℕ E) : Type 0 where
  pub call : IsFileCall (is_err result) old new
  pub same : HasNoMore old new
  pub now : old.sync_failed ≡ false → new.now ≡ old.now
  pub ok : IfOk result (λ sectors. sectors ≡ old.sectors)

-- A read changes nothing. The sectors that it moved have the contents that were written last. A
-- read that moves no sector has failed. After a failed sync, this record states nothing about the
-- contents that reads return.
pub record IsFileRead {E : Type 0} (old new : FileFacts) (at : ℕ) (into : List Sector) (result : Result ℕ E) : Type 0 where
  pub call : IsFileCall (moved result == 0) old new
  pub same : HasNoMore old new
  pub now : old.sync_failed ≡ false → new.now ≡ old.now
  pub moved : old.sync_failed ≡ false → (i : ℕ) → i < moved result → sector into i ≡ sector old.now (at + i)

-- each sector has its old content or its given content; the first `count` of the given sectors have
-- their given content
pub record IsOldOrGiven (at : ℕ) (given : List Sector) (count : ℕ) (old new : List Sector) : Type 0 where
  pub size : length new ≡ length old
  pub either : (k : ℕ) → (sector new k ≡ sector old k) ⊎ IsGivenTo at given k (sector new k)
  pub moved : (i : ℕ) → i < count → sector new (at + i) ≡ sector given i

-- A write that was complete, short or failed. For each given sector, reads return the old content
-- or the given one. For the sectors that the write moved, they return the given one. The set of a
-- sector grows at most by its given content. A write that moves no sector has failed.
pub record IsFileWrite {E : Type 0} (old new : FileFacts) (at : ℕ) (given : List Sector) (result : Result ℕ E) : Type 0 where
  pub call : IsFileCall (moved result == 0) old new
  pub sync_failed : new.sync_failed ≡ old.sync_failed
  pub medium : (k : ℕ) (c : Sector) → MayHave new k c → MayHave old k c ⊎ IsGivenTo at given k c
  pub now : old.sync_failed ≡ false → IsOldOrGiven at given (moved result) old.now new.now

-- A sync. No sector's set grows. If the sync succeeds, and no sync has failed before, the set of
-- each sector contains only the content that reads return for this sector. After a failed sync,
-- later syncs needn't make any set smaller.
pub record IsFileSync {T E : Type 0} (old new : FileFacts) (result : Result T E) : Type 0 where
  pub call : IsFileCall (is_err result) old new
  pub medium : (k : ℕ) (c : Sector) → MayHave new k c → MayHave old k c
  pub ok : OnOk result (new.sync_failed ≡ old.sync_failed)
  pub err : OnErr result (new.sync_failed ≡ true)
  pub now : OnOk result (old.sync_failed ≡ false → new.now ≡ old.now)
  pub alone : OnOk result (old.sync_failed ≡ false → (k : ℕ) (c : Sector) → MayHave new k c → c ≡ sector new.now k)

-- the medium may have the contents that reads return
pub record HoldsWhatIsRead (file : FileFacts) : Type 0 where
  pub size : length file.now ≡ file.sectors
  pub each : (k : ℕ) → k < file.sectors → MayHave file k (sector file.now k)

-- A file that is found after a stop: reads return the sectors `contents`, the medium has exactly
-- these contents, and no sync has failed since the stop.
pub record IsFoundWith (file : FileFacts) (contents : List Sector) : Type 0 where
  pub sectors : file.sectors ≡ length contents
  pub now : file.now ≡ contents
  pub alone : (k : ℕ) (c : Sector) → MayHave file k c → c ≡ sector contents k
  pub sync_failed : file.sync_failed ≡ false

-- each content that the medium may have is a whole sector
pub record HasWholeContents (file : FileFacts) : Type 0 where
  pub each : (k : ℕ) (c : Sector) → MayHave file k c → IsWhole c

-- the facts of a file about which nothing is known
abbrev pub unknown_file : FileFacts
unknown_file = record { sectors = 0; time = 0; failures = 0; sync_failed = false; now = []; may_have = λ u k c. ⊥ }
