-- The read-ahead buffer: sectors that were read from the file, with their contents.
use Rattle.std.specs.Prelude.{◌≡◌, ◌-◌, ◌&&◌, ◌⊎◌, ℕ, List}
use Rattle.std.specs.Prelude.{nat_le, nat_lt, Option, None, Some, if◌then◌else◌}
use Rattle.sector_disk.specs.Disk.{Sector, sector}
use Rattle.file_disk.specs.declared.read_ahead.ReadAhead.{ReadAhead}

-- the content that the file returned for sector k, if the buffer has it
abbrev pub read_ahead_at : ReadAhead → ℕ → Option Sector
read_ahead_at read_ahead k =
    if nat_le read_ahead.start k && nat_lt (k - read_ahead.start) read_ahead.count
    then Some (sector read_ahead.contents.items (k - read_ahead.start))
    else None

-- the buffer has the same content for sector k as before, or it no longer has the sector
abbrev pub IsForgotten : ReadAhead → ReadAhead → ℕ → Type 0
IsForgotten old new k = (read_ahead_at new k ≡ read_ahead_at old k) ⊎ (read_ahead_at new k ≡ None)

-- each content in the read-ahead buffer is the one that its sector has in `now`
abbrev pub KeepsOf : ReadAhead → List Sector → Type 0
KeepsOf read_ahead now = (k : ℕ) (content : Sector) → read_ahead_at read_ahead k ≡ Some content → content ≡ sector now k
