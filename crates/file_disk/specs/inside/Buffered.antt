-- The effects of the calls of a file with its buffers, if the file is honest.
use Rattle.std.specs.Prelude.{◌≡◌, ◌≢◌, ◌<◌, ◌⊎◌, ℕ, None, true, false}
use Rattle.sector_disk.specs.Disk.{Sector, sector}
use Rattle.file_disk.specs.declared.buffered.Buffered.{Buffered}
use Rattle.file_disk.specs.declared.sector_file.SectorFile.{Ghosts}
use Rattle.file_disk.specs.Buffered.{shown_at, Leaves}
use Rattle.file_disk.specs.WriteBuffer.{write_buffer_at}
use Rattle.file_disk.specs.SectorFile.{MayHave}
use Rattle.file_disk.specs.inside.Transfer.{StaysWithin}

module _ {F : Type 0} {g : Ghosts F} where
  -- reads of the file return the same contents as before; from `old` to `new`, its medium had only contents
  -- that a stop may leave
  pub record IsStill (old new : Buffered F g) : Type 0 where
    pub within : StaysWithin (Leaves old) (g.facts old.file) (g.facts new.file)
    pub now : old.failed ≡ false → (g.facts new.file).now ≡ (g.facts old.file).now

  -- a call of the file failed
  pub record IsFailed (old new : Buffered F g) : Type 0 where
    pub within : StaysWithin (Leaves old) (g.facts old.file) (g.facts new.file)
    pub failures : (g.facts old.file).failures < (g.facts new.file).failures

  -- a call of the file failed, or an earlier write or sync failed
  pub record IsRefused (old new : Buffered F g) : Type 0 where
    pub within : StaysWithin (Leaves old) (g.facts old.file) (g.facts new.file)
    pub cause : (old.failed ≡ true) ⊎ ((g.facts old.file).failures < (g.facts new.file).failures)

  -- reads of the file now return the contents that reads through the buffers returned before
  pub record IsWrittenBack (old new : Buffered F g) : Type 0 where
    pub within : StaysWithin (Leaves old) (g.facts old.file) (g.facts new.file)
    pub shown : (k : ℕ) → sector (g.facts new.file).now k ≡ shown_at old k

  -- reads return the same contents as before, and the write buffer has no new sectors
  pub record IsRoomy (old new : Buffered F g) : Type 0 where
    pub within : StaysWithin (Leaves old) (g.facts old.file) (g.facts new.file)
    pub shown : (k : ℕ) → shown_at new k ≡ shown_at old k
    pub waits : (k : ℕ) → (write_buffer_at new.write_buffer k ≡ write_buffer_at old.write_buffer k) ⊎ (write_buffer_at new.write_buffer k ≡ None)

  -- for each sector except `at`, reads return the same content as before
  pub record IsPut (at : ℕ) (old new : Buffered F g) : Type 0 where
    pub within : StaysWithin (Leaves old) (g.facts old.file) (g.facts new.file)
    pub shown : (k : ℕ) → k ≢ at → shown_at new k ≡ shown_at old k

  -- reads of the file now return the contents that reads through the buffers returned before, and the
  -- medium has only these contents
  pub record IsSynced (old new : Buffered F g) : Type 0 where
    pub within : StaysWithin (Leaves old) (g.facts old.file) (g.facts new.file)
    pub shown : (k : ℕ) → sector (g.facts new.file).now k ≡ shown_at old k
    pub alone : (k : ℕ) (c : Sector) → MayHave (g.facts new.file) k c → c ≡ shown_at old k
