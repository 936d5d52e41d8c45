-- The write buffer: sectors that haven't been written to the file yet, with their contents.
use Rattle.std.specs.Prelude.{◌-◌, ◌+◌, ◌==◌, ◌||◌, ◌&&◌, ℕ, Bool, nat_le, nat_lt, Option, None, Some, if◌then◌else◌, length}
use Rattle.sector_disk.specs.Disk.{Sector, sector}
use Rattle.file_disk.specs.declared.write_buffer.WriteBuffer.{WriteBuffer}

-- the content of sector k in the buffer, if the buffer has the sector
abbrev pub write_buffer_at : WriteBuffer → ℕ → Option Sector
write_buffer_at write_buffer k =
    if nat_le write_buffer.start k && nat_lt (k - write_buffer.start) (length write_buffer.contents.items)
    then Some (sector write_buffer.contents.items (k - write_buffer.start))
    else None

-- the number of the sector after the last buffered one
abbrev pub write_buffer_end : WriteBuffer → ℕ
write_buffer_end write_buffer = write_buffer.start + length write_buffer.contents.items

-- Sector `at` can be buffered: the buffer is empty, or it has this sector, or the sector is the
-- next one and there is room for it.
abbrev pub has_room : WriteBuffer → ℕ → Bool
has_room write_buffer at =
    length write_buffer.contents.items == 0
    || nat_le write_buffer.start at && nat_le (at - write_buffer.start) (length write_buffer.contents.items) && nat_lt (at - write_buffer.start) write_buffer.room
