-- The disk model: the facts of a disk, the contents that a stop may leave, and the effect of each
-- call.
use Rattle.std.specs.Prelude.{◌≡◌, ◌<◌, ◌≤◌, ◌+◌, ◌-◌, ◌↔◌, ◌⊎◌, ℕ, Bool, ◌∷◌, ◌++◌}
use Rattle.std.specs.Prelude.{IsTrue, List, [], length, set, slice_index_or, All, Result, OnOk, OnErr}
use Rattle.sector_disk.specs.declared.fuse.Plan.{Plan}

-- the number of bytes of a sector
abbrev pub sector_bytes : ℕ
sector_bytes = 512

-- the content of a sector: the list of its bytes
abbrev pub Sector : Type 0
Sector = List ℕ

-- a content is whole: it has as many bytes as a sector, and each byte is below 256
pub record IsWhole (content : Sector) : Type 0 where
  pub size : length content ≡ sector_bytes
  pub bytes : All (λ byte. byte < 256) content

-- the content of sector k in a list of sectors
abbrev pub sector : List Sector → ℕ → Sector
sector sectors k = slice_index_or sectors k []

-- a call that a log records: a write or a sync
pub data Logged : Type 0 where
  Wrote : Logged
  Synced : Logged

-- The facts of a disk. Its moments are 0 to `time`, and each call adds one moment.
pub record DiskFacts : Type 1 where
  -- the disk is honest: `IsRead`, `IsWrite` and `IsSync` hold for its calls
  pub honest : Bool
  pub sectors : ℕ
  pub time : ℕ
  -- the mark of each moment: for a disk over a file, the file's time at that moment; for any other disk, the moment
  -- itself
  pub marks : ℕ → ℕ
  -- the number of calls that have failed
  pub failures : ℕ
  -- the plans of the fuses through which the disk's calls go: the calls that fail
  pub plans : List Plan
  -- the writes and syncs that the disk logs, the oldest first; empty if the disk keeps no log
  pub log : List Logged
  -- the contents that reads return
  pub now : List Sector
  -- the set of a sector at a moment: the contents that a stop at that moment may leave in the sector
  pub may_leave : ℕ → ℕ → Sector → Type 0

-- a stop now may leave sector k with this content, because the content is in the sector's set
abbrev pub MayLeave : DiskFacts → ℕ → Sector → Type 0
MayLeave disk k c = disk.may_leave disk.time k c

-- `m` is a mixture of a moment: each sector, independently of the others, has a content that a stop
-- at that moment may leave there
pub record MixtureAt (disk : DiskFacts) (moment : ℕ) (m : List Sector) : Type 0 where
  pub size : length m ≡ disk.sectors
  pub each : (k : ℕ) → k < disk.sectors → disk.may_leave moment k (sector m k)

-- `m` is a mixture of the present moment: contents that a stop now may leave
abbrev pub Mixture : DiskFacts → List Sector → Type 0
Mixture disk m = MixtureAt disk disk.time m

-- `m` is a mixture of some moment, from the moment `since` up to the present one
abbrev pub LeftSince : DiskFacts → ℕ → List Sector → Type 0
LeftSince disk since m = (u : ℕ) × (since ≤ u) × (u ≤ disk.time) × MixtureAt disk u m

-- the contents that reads return are one of the mixtures
abbrev pub HoldsNow : DiskFacts → Type 0
HoldsNow disk = Mixture disk disk.now

-- all contents that reads return, or that a stop might have left at a moment up to now, are whole
pub record HasWholeSectors (disk : DiskFacts) : Type 0 where
  pub now : (k : ℕ) → k < disk.sectors → IsWhole (sector disk.now k)
  pub left : (u k : ℕ) (c : Sector) → u ≤ disk.time → k < disk.sectors → disk.may_leave u k c → IsWhole c

-- a stop now leaves the contents that reads return, and no other contents (`LeavesNowAlone` is the
-- condition for each sector)
pub record IsSynced (disk : DiskFacts) : Type 0 where
  pub each : (m : List Sector) → Mixture disk m → m ≡ disk.now

-- `new` has the same sets and the same mark as `old` at each moment of `old`
pub record KeepsPast (old new : DiskFacts) : Type 0 where
  pub sectors : new.sectors ≡ old.sectors
  pub later : old.time ≤ new.time
  pub marks : (u : ℕ) → u ≤ old.time → new.marks u ≡ old.marks u
  pub past : (u k : ℕ) (c : Sector) → u ≤ old.time → new.may_leave u k c ↔ old.may_leave u k c

-- reads return the same contents, a stop may leave the same contents, and the log is the same
pub record IsUnchanged (old new : DiskFacts) : Type 0 where
  pub now : new.now ≡ old.now
  pub log : new.log ≡ old.log
  pub stop : (k : ℕ) (c : Sector) → MayLeave new k c ↔ MayLeave old k c

-- no sector's set grows
pub record LeavesNoMore (old new : DiskFacts) : Type 0 where
  pub each : (k : ℕ) (c : Sector) → MayLeave new k c → MayLeave old k c

-- the set of sector `at` grows by this content, and no other set changes
pub record GrowsBy (old new : DiskFacts) (at : ℕ) (content : Sector) : Type 0 where
  pub each : (k : ℕ) (c : Sector) → MayLeave new k c ↔ (MayLeave old k c ⊎ (k ≡ at) × (c ≡ content))

-- the set of sector `at` grows by at most this content, and the set of no other sector grows
pub record GrowsByAtMost (old new : DiskFacts) (at : ℕ) (content : Sector) : Type 0 where
  pub each : (k : ℕ) (c : Sector) → MayLeave new k c → MayLeave old k c ⊎ (k ≡ at) × (c ≡ content)

-- The set of each sector contains the content that reads of the sector return, and no other
-- content.
pub record LeavesNowAlone (disk : DiskFacts) : Type 0 where
  pub each : (k : ℕ) (c : Sector) → k < disk.sectors → MayLeave disk k c ↔ (c ≡ sector disk.now k)

-- `m` is `old`, or it is `old` with `content` in sector `at`
abbrev pub IsOldOrSet : List Sector → ℕ → Sector → List Sector → Type 0
IsOldOrSet old at content m = (m ≡ old) ⊎ (m ≡ set old at content)

-- a log grew by at most `most` calls
pub record LogGrows (most : ℕ) (old new : List Logged) : Type 0 where
  pub more : List Logged
  pub few : length more ≤ most
  pub grown : new ≡ old ++ more

-- a log stayed the same, or grew by one sync
pub record MayAddSync (old new : List Logged) : Type 0 where
  pub either : (new ≡ old) ⊎ (new ≡ old ++ Synced ∷ [])

-- A log stayed the same or grew by one sync, and after that it grew by at most `most` calls.
pub record GrowsBehindSync (most : ℕ) (old new : List Logged) : Type 0 where
  pub begun : List Logged
  pub sync : MayAddSync old begun
  pub more : LogGrows most begun new

-- One call, on any disk: the time is greater by one, and a failure is counted. The size and the
-- honesty stay the same.
pub record IsCall {T E : Type 0} (old new : DiskFacts) (result : Result T E) : Type 0 where
  pub honest : new.honest ≡ old.honest
  pub sectors : new.sectors ≡ old.sectors
  pub plans : new.plans ≡ old.plans
  pub log : LogGrows 1 old.log new.log
  pub time : new.time ≡ old.time + 1
  pub ok : OnOk result (new.failures ≡ old.failures)
  pub err : OnErr result (new.failures ≡ old.failures + 1)

-- A read of an honest disk changes nothing. If it succeeds, it returns the latest content.
pub record IsRead {T E : Type 0} (old new : DiskFacts) (at : ℕ) (content : Sector) (result : Result T E) : Type 0 where
  pub past : KeepsPast old new
  pub same : IsUnchanged old new
  pub ok : OnOk result (content ≡ sector old.now at)

-- A write to an honest disk. If it succeeds, reads return the new content, and the sector's set
-- grows by this content.
pub record IsWrite {T E : Type 0} (old new : DiskFacts) (at : ℕ) (content : Sector) (result : Result T E) : Type 0 where
  pub past : KeepsPast old new
  pub ok : OnOk result (new.now ≡ set old.now at content)
  -- if the write fails, reads may return the old content, and each set may have lost contents
  pub err : OnErr result (IsOldOrSet old.now at content new.now)
  pub stop : GrowsByAtMost old new at content
  pub stop_ok : OnOk result (GrowsBy old new at content)

-- A sync of an honest disk. Reads return the same contents as before. If the sync succeeds, the set of
-- each sector contains only the latest content.
pub record IsSync {T E : Type 0} (old new : DiskFacts) (result : Result T E) : Type 0 where
  pub past : KeepsPast old new
  pub now : new.now ≡ old.now
  pub log : MayAddSync old.log new.log
  -- if the sync fails, each set may have lost contents
  pub stop : LeavesNoMore old new
  pub stop_ok : OnOk result (LeavesNowAlone new)

-- the number of calls from `old` to `new`: each call adds one moment
abbrev pub calls_between : DiskFacts → DiskFacts → ℕ
calls_between old new = new.time - old.time

-- Some calls, on any disk: the size and the honesty stay the same. The number of failures and the
-- length of the log each grew by at most the number of calls.
pub record AreCalls (old new : DiskFacts) : Type 0 where
  pub honest : new.honest ≡ old.honest
  pub sectors : new.sectors ≡ old.sectors
  pub plans : new.plans ≡ old.plans
  pub log : LogGrows (calls_between old new) old.log new.log
  pub later : old.time ≤ new.time
  pub failures : old.failures ≤ new.failures
  pub few_failures : new.failures - old.failures ≤ calls_between old new

-- exactly `calls` calls were made
pub record AreCallsExactly (calls : ℕ) (old new : DiskFacts) : Type 0 where
  pub some : AreCalls old new
  pub time : new.time ≡ old.time + calls

-- at most `calls` calls were made
pub record AreCallsAtMost (calls : ℕ) (old new : DiskFacts) : Type 0 where
  pub some : AreCalls old new
  pub time : new.time ≤ old.time + calls

-- At any moment from `old` to `new`, a stop leaves only lists of sectors for which `P` holds.
pub record LeavesOnly (old new : DiskFacts) (P : List Sector → Type 0) : Type 0 where
  pub past : KeepsPast old new
  pub each : (m : List Sector) → LeftSince new old.time m → P m

-- both lists have the same content in every sector except those in `places`
pub record SameBut (places : ℕ → Type 0) (old new : List Sector) : Type 0 where
  pub size : length new ≡ length old
  pub others : (k : ℕ) → (places k → ⊥) → sector new k ≡ sector old k

-- `m` equals a mixture of the present moment, except in the sectors in `places`
abbrev pub IsMixtureBut : (ℕ → Type 0) → DiskFacts → List Sector → Type 0
IsMixtureBut places disk m = (m' : List Sector) × Mixture disk m' × SameBut places m' m

-- `m` is a mixture of the disk, or a mixture in which sector `at` was set to `content`
abbrev pub IsMixtureOrSet : DiskFacts → ℕ → Sector → List Sector → Type 0
IsMixtureOrSet disk at content m = Mixture disk m ⊎ ((m' : List Sector) × Mixture disk m' × (m ≡ set m' at content))

-- `new` is the same disk as `old`, but may count its moments in another way: at the present moment,
-- the facts of both are the same; about earlier moments, nothing is stated
pub record IsSameDisk (old new : DiskFacts) : Type 0 where
  pub honest : new.honest ≡ old.honest
  pub sectors : new.sectors ≡ old.sectors
  pub mark : new.marks new.time ≡ old.marks old.time
  pub same : IsUnchanged old new

-- nothing distinguishes the two disks: at each moment of `old`, the facts of `new` are the same
pub record IsCopy (old new : DiskFacts) : Type 0 where
  pub honest : new.honest ≡ old.honest
  pub sectors : new.sectors ≡ old.sectors
  pub time : new.time ≡ old.time
  pub marks : (u : ℕ) → new.marks u ≡ old.marks u
  pub failures : new.failures ≡ old.failures
  pub plans : new.plans ≡ old.plans
  pub log : new.log ≡ old.log
  pub now : new.now ≡ old.now
  pub past : (u k : ℕ) (c : Sector) → new.may_leave u k c ↔ old.may_leave u k c

-- the disk is an honest disk at its start: it holds these sectors, all synced, and no call was made
pub record StartsWith (disk : DiskFacts) (contents : List Sector) : Type 0 where
  pub honest : IsTrue disk.honest
  pub sectors : disk.sectors ≡ length contents
  pub now : disk.now ≡ contents
  pub alone : LeavesNowAlone disk
  pub time : disk.time ≡ 0
  pub failures : disk.failures ≡ 0
  pub log : disk.log ≡ []

-- the disk `new` is the disk `old` after a stop: it starts with one of the mixtures of `old`
pub record IsStopped (old new : DiskFacts) : Type 0 where
  pub mixture : Mixture old new.now
  pub starts : StartsWith new new.now
