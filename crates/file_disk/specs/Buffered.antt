-- A file with its write buffer.
use Rattle.std.specs.Prelude.{◌≡◌, ◌⊎◌, ℕ, Option, Some, None}
use Rattle.sector_disk.specs.Disk.{Sector, sector}
use Rattle.file_disk.specs.declared.buffered.Buffered.{Buffered}
use Rattle.file_disk.specs.declared.sector_file.SectorFile.{Ghosts}
use Rattle.file_disk.specs.WriteBuffer.{write_buffer_at}
use Rattle.file_disk.specs.SectorFile.{MayHave}

-- the first content if there is one, and otherwise the content `other`
abbrev pub or_else : Option Sector → Sector → Sector
or_else (Some content) other = content
or_else None other = other

module _ {F : Type 0} {g : Ghosts F} where
  -- the content that reads return for sector k: that in the write buffer, or, if the write buffer
  -- doesn't have the sector, that in the file
  abbrev pub shown_at : Buffered F g → ℕ → Sector
  shown_at buffered k = or_else (write_buffer_at buffered.write_buffer k) (sector (g.facts buffered.file).now k)

  -- c is the content of sector k in the write buffer, or one that the file's medium may have in sector k
  abbrev pub Leaves : Buffered F g → ℕ → Sector → Type 0
  Leaves buffered k c = (write_buffer_at buffered.write_buffer k ≡ Some c) ⊎ MayHave (g.facts buffered.file) k c
