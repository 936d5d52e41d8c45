-- Contents with as many bytes as a sector.
use Rattle.std.proofs.Common.{◌≡◌, ℕ, ◌<◌, List, [], length, get_or, replicate, All, refl, arith}
use Rattle.std.proofs.lemmas.List.Elements.{All-contains, All-replicate, All-from_get_or}
use Rattle.sector_disk.specs.declared.written.Written.{Written}
use Rattle.sector_disk.specs.Disk.{Sector, sector, sector_bytes, IsWhole}
use Rattle.sector_disk.specs.Memory.{IsPicked}
use Rattle.sector_disk.specs.Written.{choices}
use Rattle.sector_disk.specs.inside.MemoryLaws.{choices_whole}
use Rattle.sector_disk.proofs.Kept.{among_picked}

-- a content of 512 bytes is whole
pub is_whole : (content : Sector) → length content ≡ sector_bytes → ((i : ℕ) → get_or content i 0 < 256) → IsWhole content
is_whole content size bytes = record { size = size; bytes = All-from_get_or (λ byte. byte < 256) content 0 (λ i lt. bytes i) }

-- a sector of zeros is whole
pub zeros_whole : IsWhole (replicate sector_bytes 0)
zeros_whole = record { size = refl; bytes = All-replicate (λ byte. byte < 256) sector_bytes 0 (omega arith) }

-- what is picked from whole contents is whole
pub picked_whole : (IsNamed : ℕ → ℕ → Type 0) (start : List Sector) (writes : List Written) (synced : ℕ) (mixture : List Sector)
    → length mixture ≡ length start → All IsWhole start → All (λ (write : Written). IsWhole write.content) writes
    → ((at : ℕ) → at < length start → IsPicked (IsNamed at) (choices start writes synced at) (sector mixture at)) → All IsWhole mixture
picked_whole IsNamed start writes synced mixture size whole whole_writes picked =
    All-from_get_or IsWhole mixture [] (λ at lt.
    let in_start : at < length start = omega (arith, lt, size) in
    All-contains IsWhole (choices start writes synced at) (sector mixture at) (choices_whole start writes synced at in_start whole whole_writes)
    (among_picked (IsNamed at) (choices start writes synced at) (sector mixture at) (omega arith) (picked at in_start)))
