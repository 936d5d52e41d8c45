-- A registry on a disk over a file, immediately after it was made or upgraded (own).
use Rattle.std.specs.Prelude.{◌≡◌, ℕ, Ok}
use Rattle.store.specs.Opened.{Opened}
use Rattle.file_disk.specs.FileDisk.{file_facts, IsNew}
use Rattle.file_disk.specs.declared.disk.FileDisk.{FileDisk}
use Rattle.file_disk.specs.declared.disk_file.DiskFile.{DiskFile}
use Rattle.file_disk.specs.contracts.disk_file.DiskFileSectorFile.TheImpl.{ghosts}
use Rattle.registry.specs.Opening.{EndsMaking, EndsUpgrading}

-- a disk over a file of the system
abbrev pub SystemDisk : Type 0
SystemDisk = FileDisk DiskFile ghosts

-- a registry was made on a new disk of n sectors: exactly the calls for making it were made, and
-- none failed; no byte string is held
pub record IsMade (n : ℕ) (disk : SystemDisk) (registry : Opened SystemDisk) : Type 0 where
  pub new : IsNew disk
  pub sectors : (file_facts disk).sectors ≡ n
  pub making : EndsMaking file_facts disk (Ok registry)

-- a registry was opened or upgraded on a new disk with a valid number of sectors; only calls of that disk
-- were made, and none failed; no byte string is held
pub record IsUpgraded (disk : SystemDisk) (registry : Opened SystemDisk) : Type 0 where
  pub new : IsNew disk
  pub upgrading : EndsUpgrading file_facts disk (Ok registry)
