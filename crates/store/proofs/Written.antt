-- Bytes that were written to the sectors of an entry.
use Rattle.std.proofs.Common.{◌≡◌, ℕ, ◌*◌, ◌<◌, ◌≤◌, List, [], length, set, take, ap, ◌∙◌, arith}
use Rattle.std.specs.Prelude.{Contains}
use Rattle.std.specs.Int.{div_ceil}
use Rattle.std.proofs.lemmas.List.{get_or-set_other}
use Rattle.sector_disk.specs.Disk.{Sector, sector_bytes, DiskFacts, Mixture, IsSynced}
use Rattle.extents.specs.declared.extent.Extent.{Extent}
use Rattle.extents.specs.Extent.{places, sector_count}
use Rattle.extents.specs.Limits.{root_sectors}
use Rattle.passes.specs.Bytes.{bytes_at, padded}
use Rattle.passes.proofs.Padding.{take-padded}
use Rattle.passes.proofs.Runs.{bytes_at_same}
use Rattle.roots.specs.declared.entry.Entry.{Entry}
use Rattle.store.specs.Stands.{extents_of}
use Rattle.store.specs.Taken.{HaveBytes}

-- if the entry has the length of the bytes, its byte string has these bytes
pub written_bytes : (m : List Sector) (entry : Entry) (bytes : List ℕ)
    → bytes_at m (places (extents_of entry)) ≡ padded (sector_bytes * sector_count (extents_of entry)) bytes → entry.file_length ≡ length bytes
    → length bytes ≤ 512 * sector_count (extents_of entry) → take entry.file_length (bytes_at m (places (extents_of entry))) ≡ bytes
written_bytes m entry bytes written its_length enough =
    ap (take entry.file_length) written
    ∙ ap (λ n. take n (padded (sector_bytes * sector_count (extents_of entry)) bytes)) its_length
    ∙ take-padded (512 * sector_count (extents_of entry)) bytes enough

-- Bytes in sectors after the roots are in every mixture once a root is written and synced.
pub written_stays : (before : List Sector) (new : DiskFacts) (ks bytes : List ℕ) (at : ℕ) (content : Sector) → at < root_sectors → ((k : ℕ) → Contains ks k → root_sectors ≤ k)
    → bytes_at before ks ≡ bytes → IsSynced new → new.now ≡ set before at content → (m : List Sector) → Mixture new m → bytes_at m ks ≡ bytes
written_stays before new ks bytes at content low behind written synced is m mixture =
    ap (λ l. bytes_at l ks) (synced.each m mixture ∙ is)
    ∙ bytes_at_same before (set before at content) ks (λ k found. get_or-set_other before at k content [] (λ here. omega (arith, here, low, behind k found)))
    ∙ written

-- if the extents have as many sectors as the bytes need, they have the bytes
pub have_bytes : (disk : DiskFacts) (extents : List Extent) (bytes : List ℕ) → sector_count extents ≡ div_ceil (length bytes) sector_bytes
    → ((m : List Sector) → Mixture disk m → bytes_at m (places extents) ≡ padded (sector_bytes * sector_count extents) bytes) → HaveBytes disk extents bytes
have_bytes disk extents bytes enough written = λ m mixture. written m mixture ∙ ap (λ n. padded (sector_bytes * n) bytes) enough
