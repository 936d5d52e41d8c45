-- Contents with as many bytes as a sector.
use Rattle.std.proofs.Common.{◌≡◌, ℕ, ◌<◌, length, get_or}
use Rattle.std.proofs.lemmas.List.Elements.{All-from_get_or}
use Rattle.sector_disk.specs.Disk.{Sector, sector_bytes, IsWhole}

-- a content of 512 bytes is whole
pub is_whole : (content : Sector) → length content ≡ sector_bytes → ((i : ℕ) → get_or content i 0 < 256) → IsWhole content
is_whole content size bytes = record { size = size; bytes = All-from_get_or (λ byte. byte < 256) content 0 (λ i lt. bytes i) }
