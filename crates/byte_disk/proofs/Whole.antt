-- Bytes that are whole sectors.
use Rattle.std.proofs.Common.{◌≡◌, ℕ, zero, suc, ◌<◌, ◌≤◌, ◌*◌, List, length, get_or, take, drop, All, arith}
use Rattle.std.proofs.lemmas.List.{length-take-le, length-drop}
use Rattle.std.proofs.lemmas.List.Elements.{All-nil, All-cons, All-take, All-drop, All-from_get_or}
use Rattle.std.specs.Simd.{first_chunks}
use Rattle.sector_disk.specs.Disk.{Sector, sector_bytes, IsWhole}

-- a content of 512 bytes is whole
pub is_whole : (content : Sector) → length content ≡ sector_bytes → ((i : ℕ) → get_or content i 0 < 256) → IsWhole content
is_whole content size bytes = record { size = size; bytes = All-from_get_or (λ byte. byte < 256) content 0 (λ i lt. bytes i) }

abbrev IsByte : ℕ → Type 0
IsByte byte = byte < 256

-- the sectors of bytes are whole, if there are enough bytes
pub chunks_whole : (k : ℕ) (bytes : List ℕ) → sector_bytes * k ≤ length bytes → All IsByte bytes → All IsWhole (first_chunks sector_bytes k bytes)
chunks_whole zero bytes le all = All-nil IsWhole
chunks_whole (suc k) bytes le all =
    All-cons IsWhole (take sector_bytes bytes) (first_chunks sector_bytes k (drop sector_bytes bytes))
    (record { size = length-take-le sector_bytes bytes (omega arith); bytes = All-take IsByte sector_bytes bytes all })
    (chunks_whole k (drop sector_bytes bytes) (omega (arith, length-drop sector_bytes bytes)) (All-drop IsByte sector_bytes bytes all))

pub bytes_whole : (k : ℕ) (bytes : List ℕ) → sector_bytes * k ≤ length bytes → ((i : ℕ) → get_or bytes i 0 < 256) → All IsWhole (first_chunks sector_bytes k bytes)
bytes_whole k bytes le each = chunks_whole k bytes le (All-from_get_or IsByte bytes 0 (λ i lt. each i))
