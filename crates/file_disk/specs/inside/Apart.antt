-- The condition that no sector is in both buffers of a disk over a file.
use Rattle.std.specs.Prelude.{◌≡◌, ℕ, None, IsSome}
use Rattle.file_disk.specs.declared.read_ahead.ReadAhead.{ReadAhead}
use Rattle.file_disk.specs.declared.write_buffer.WriteBuffer.{WriteBuffer}
use Rattle.file_disk.specs.ReadAhead.{read_ahead_at}
use Rattle.file_disk.specs.WriteBuffer.{write_buffer_at}

-- no sector of the write buffer is in the read-ahead buffer
abbrev pub IsApart : WriteBuffer → ReadAhead → Type 0
IsApart write_buffer read_ahead = (k : ℕ) → IsSome (write_buffer_at write_buffer k) → read_ahead_at read_ahead k ≡ None
