-- The facts of a disk over a file.
use Rattle.std.specs.Prelude.{◌≡◌, ◌≢◌, ◌⊎◌, ◌<◌, ◌≤◌, ℕ, Bool, false, List, [], map, slice_index_or, Option, None, Some, Ok, Err}
use Rattle.std.specs.List.{range_with_len}
use Rattle.sector_disk.specs.CallCount.{calls_made, calls_failed}
use Rattle.sector_disk.specs.Disk.{Sector, sector, DiskFacts, MayLeave, MixtureAt, LeftSince, LeavesOnly, StartsWith}
use Rattle.file_disk.specs.declared.disk.FileDisk.{FileDisk}
use Rattle.file_disk.specs.declared.open.OpenFault.{OpenFault}
use Rattle.file_disk.specs.declared.open.OpenFault.TheVariants.{OutOfMemory}
use Rattle.file_disk.specs.declared.sector_file.SectorFile.{Ghosts}
use Rattle.file_disk.specs.ReadAhead.{read_ahead_at}
use Rattle.file_disk.specs.WriteBuffer.{write_buffer_at}
use Rattle.file_disk.specs.Left.{LeftOf, shown_of, time_at}
use Rattle.file_disk.specs.SectorFile.{FileFacts, MayHave, MediumAt, IsCounted, IsFoundWith}

-- The reason why no disk is made over a file: memory was refused, or the file's sectors couldn't be
-- counted. In the second case, the file is `after` once the count has failed.
abbrev pub HasCause : {F : Type 0} → (F → FileFacts) → F → OpenFault → Type 0
HasCause {F} facts file fault = (fault ≡ OutOfMemory) ⊎ ((after : F) × IsCounted {E = OpenFault} (facts file) (facts after) (Err fault))

-- the disk was at its moment v when its file was at its moment u: v is the last moment of the disk
-- whose mark is at most u
pub record IsMomentAt (disk : DiskFacts) (u v : ℕ) : Type 0 where
  pub up_to : v ≤ disk.time
  pub reached : disk.marks v ≤ u
  pub last : (w : ℕ) → v < w → w ≤ disk.time → u < disk.marks w

module _ {F : Type 0} {g : Ghosts F} where
  -- For each sector, reads return the content that they returned at the last moment at which no
  -- write or sync had failed: that in the write buffer, or otherwise that in the file. A stop may
  -- leave the contents from the moment of the last successful sync, or from after a later write:
  -- those in the write buffer, and those that the file's medium might have had. The mark of a
  -- moment is the file's time at that moment.
  abbrev pub file_facts : FileDisk F g → DiskFacts
  file_facts disk = record {
    honest = g.is_honest;
    sectors = disk.buffered.sectors;
    time = calls_made disk.calls;
    marks = time_at disk.files.items disk.buffered;
    failures = calls_failed disk.calls;
    plans = [];
    log = [];
    now = map (shown_of disk.latest.items) (range_with_len 0 disk.buffered.sectors);
    may_leave = λ u k c. LeftOf (slice_index_or disk.past.items u disk.since).items k c;
  }

  -- a write or a sync has failed
  abbrev pub has_failed : FileDisk F g → Bool
  has_failed disk = disk.buffered.failed

  -- the file under a disk
  abbrev pub file_of : FileDisk F g → F
  file_of disk = disk.buffered.file

  -- the facts of the file
  abbrev pub facts_below : FileDisk F g → FileFacts
  facts_below disk = g.facts disk.buffered.file

  -- the content of sector k in the write buffer, which hasn't been written to the file yet
  abbrev pub waiting : FileDisk F g → ℕ → Option Sector
  waiting disk k = write_buffer_at disk.buffered.write_buffer k

  -- the content of sector k in the read-ahead buffer, which the file returned for the sector
  abbrev pub kept : FileDisk F g → ℕ → Option Sector
  kept disk k = read_ahead_at disk.buffered.read_ahead k

  -- the write buffer is empty
  abbrev pub WaitsNot : FileDisk F g → Type 0
  WaitsNot disk = (k : ℕ) → waiting disk k ≡ None

  -- both disks have the same sectors in the write buffer, with the same contents
  abbrev pub WaitsSame : FileDisk F g → FileDisk F g → Type 0
  WaitsSame old new = (k : ℕ) → waiting new k ≡ waiting old k

  -- the file, the write buffer and the read-ahead buffer are unchanged
  pub record IsSame (old new : FileDisk F g) : Type 0 where
    pub file : file_of new ≡ file_of old
    pub waits : WaitsSame old new
    pub kept : (k : ℕ) → kept new k ≡ kept old k

  -- Sector `at` is in the write buffer with this content. Each other sector has the same content in the
  -- write buffer as before, or is no longer in it.
  pub record IsBuffered (old new : FileDisk F g) (at : ℕ) (content : Sector) : Type 0 where
    pub here : waiting new at ≡ Some content
    pub others : (k : ℕ) → k ≢ at → (waiting new k ≡ waiting old k) ⊎ (waiting new k ≡ None)

  -- A disk at its start: no call was made, none has failed, and both buffers are empty.
  pub record IsNew (disk : FileDisk F g) : Type 0 where
    pub time : (file_facts disk).time ≡ 0
    pub failures : (file_facts disk).failures ≡ 0
    pub failed : has_failed disk ≡ false
    pub waits : WaitsNot disk
    pub kept : (k : ℕ) → kept disk k ≡ None

  -- Reads return the file's contents. A stop may leave the contents that the file's medium may have, and no
  -- other contents.
  pub record IsAsTheFile (disk : FileDisk F g) : Type 0 where
    pub now : (k : ℕ) → sector (file_facts disk).now k ≡ sector (facts_below disk).now k
    pub medium : (k : ℕ) (c : Sector) → MayHave (facts_below disk) k c → MayLeave (file_facts disk) k c
    pub only : (k : ℕ) (c : Sector) → MayLeave (file_facts disk) k c → ∥ MayHave (facts_below disk) k c ∥₁

  -- A disk that was made over a file: the file's sectors were counted, and no other call of the
  -- file was made. The disk has as many sectors as the file, and reads return the contents that the
  -- file had.
  pub record IsOver (file : F) (disk : FileDisk F g) : Type 0 where
    pub counted : IsCounted {E = OpenFault} (g.facts file) (facts_below disk) (Ok (file_facts disk).sectors)
    pub sectors : (file_facts disk).sectors ≡ (g.facts file).sectors
    pub now : (k : ℕ) → sector (file_facts disk).now k ≡ sector (g.facts file).now k

  -- if the file is found with the sectors `contents` after a stop, the disk starts with these
  -- sectors
  abbrev pub StartsAsFound : F → FileDisk F g → Type 0
  StartsAsFound file disk = (contents : List Sector) → IsFoundWith (g.facts file) contents → StartsWith (file_facts disk) contents

  -- If the file's medium may have the list of sectors `m` at a moment of the file from `old` to
  -- `new`, a stop of the disk might have left `m` at some moment since `old`.
  pub record IsCovered (old new : FileDisk F g) : Type 0 where
    pub each : (u : ℕ) (m : List Sector) → (facts_below old).time ≤ u → u ≤ (facts_below new).time
        → MediumAt (facts_below new) u m → LeftSince (file_facts new) (file_facts old).time m

  -- The mark of the present moment is the file's time. If the file's medium may have had the list
  -- of sectors `m` at a moment `u` of the file, which isn't before the mark of a moment `since` of
  -- the disk, then a stop might have left `m` at the moment at which the disk was when its file was
  -- at `u`.
  pub record FollowsTheFile (disk : FileDisk F g) : Type 0 where
    pub now : (file_facts disk).marks (file_facts disk).time ≡ (facts_below disk).time
    pub each : (since u : ℕ) (m : List Sector) → since ≤ (file_facts disk).time → (file_facts disk).marks since ≤ u → u ≤ (facts_below disk).time
        → MediumAt (facts_below disk) u m → (v : ℕ) × IsMomentAt (file_facts disk) u v × MixtureAt (file_facts disk) v m

  -- If `P` holds of every list of sectors that a stop of the disk may leave between the moments of
  -- `old` and `new`, then `P` also holds of every list of sectors that the file's medium may have
  -- at any moment of the file in this time.
  abbrev pub HoldsOfTheMedium : FileDisk F g → (List Sector → Type 0) → Type 0
  HoldsOfTheMedium new P = (old : FileDisk F g) → LeavesOnly (file_facts old) (file_facts new) P
      → (u : ℕ) (m : List Sector) → (facts_below old).time ≤ u → u ≤ (facts_below new).time → MediumAt (facts_below new) u m → P m
