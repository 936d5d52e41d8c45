-- The length of a disk's file (own).
use Rattle.std.specs.Prelude.{◌≡◌, ◌≢◌, ◌<◌, ◌*◌, ◌^◌, ℕ}
use Rattle.file_disk.specs.declared.open.OpenFault.{OpenFault}
use Rattle.file_disk.specs.declared.open.OpenFault.TheVariants.{BadLength}

-- `length` is the length of a disk in bytes: the disk has a whole number of sectors, and this
-- number is less than 2^32
abbrev pub IsDiskLength : ℕ → Type 0
IsDiskLength length = (sectors : ℕ) × (sectors < 2 ^ 32) × (length ≡ 512 * sectors)

-- A fault for a bad length is justified: no disk has this length. Any other fault meets the
-- condition.
abbrev pub IsLengthFault : OpenFault → Type 0
IsLengthFault (BadLength length) = IsDiskLength length → ⊥
IsLengthFault fault = Unit {0}

-- If the fault is a bad length, a disk of `sectors` sectors doesn't have this length.
abbrev pub IsOtherLength : ℕ → OpenFault → Type 0
IsOtherLength sectors (BadLength length) = length ≢ 512 * sectors
IsOtherLength sectors fault = Unit {0}
