-- The sectors of bytes (own).
use Rattle.std.specs.Prelude.{◌≡◌, ◌<◌, ◌*◌, ◌/◌, ◌^◌, ℕ, List, length}
use Rattle.std.specs.Simd.{first_chunks}
use Rattle.sector_disk.specs.Disk.{Sector, sector_bytes}

-- a disk can have `bytes` bytes: they are whole sectors, and fewer than 2^32 of them
abbrev pub IsDiskLength : ℕ → Type 0
IsDiskLength bytes = (sectors : ℕ) × (sectors < 2 ^ 32) × (bytes ≡ sector_bytes * sectors)

-- the sectors of the bytes, in their order: 512 bytes each
abbrev pub sectors_in : List ℕ → List Sector
sectors_in bytes = first_chunks sector_bytes (length bytes / sector_bytes) bytes
