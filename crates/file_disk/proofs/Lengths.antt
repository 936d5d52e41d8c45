-- Lemmas about the length of a disk's file.
use Rattle.std.proofs.Common.{◌<◌, ◌^◌, ℕ}
use Rattle.file_disk.specs.Length.{IsLengthFault, IsOtherLength}
use Rattle.file_disk.specs.declared.open.OpenFault.{OpenFault}
use Rattle.file_disk.specs.declared.open.OpenFault.TheVariants.{CannotOpen, BadLength, OutOfMemory}

-- a disk of `sectors` sectors doesn't have a length that no disk has
pub other_length : (sectors : ℕ) (fault : OpenFault) → sectors < 2 ^ 32 → IsLengthFault fault → IsOtherLength sectors fault
other_length sectors CannotOpen below h = tt
other_length sectors (BadLength length) below h = λ is. h (sectors, below, is)
other_length sectors OutOfMemory below h = tt
