-- The sectors that a change takes, and those that it frees.
use Rattle.std.specs.Prelude.{◌≡◌, ◌⊎◌, ℕ, ◌+◌, ◌<◌, ◌≤◌, Bool, List, ◌++◌, length, All, AllPairs, Contains}
use Rattle.std.specs.Int.{div_ceil}
use Rattle.sector_disk.specs.Disk.{sector_bytes}
use Rattle.extents.specs.Limits.{root_sectors}
use Rattle.extents.specs.Extent.{AreDistinct, IsApart, sector_count}
use Rattle.extents.specs.Layout.{unused_count}
use Rattle.extents.specs.Used.{ClaimsJust}
use Rattle.passes.specs.Bytes.{IsOnDisk}
use Rattle.roots.specs.Entry.{EntryHasSpelling, IsDataExtent}
use Rattle.states.specs.Cost.{cost}
use Rattle.store.specs.declared.placed_entry.PlacedEntry.{PlacedEntry}
use Rattle.store.specs.Stands.{extents_of, name_of, sectors_of}
use Rattle.store.specs.Taken.{IsTaken}
use Rattle.store.specs.declared.holds.HeldRow.{HeldRow}
use Rattle.store.specs.inside.Claimed.{IsClaimedBeside, IsUsable}
use Rattle.store.specs.inside.HeldRows.{IsLeft, IsUnheld}

-- `k` is a root sector, or one of the sectors `places`
abbrev pub IsRootOr : List ℕ → ℕ → Type 0
IsRootOr places k = (k < root_sectors) ⊎ Contains places k

-- the sectors `gone` are claimed, each once; other sectors may be claimed too
abbrev pub AreClaimedOnce : List Bool → List ℕ → Type 0
AreClaimedOnce layout gone = (kept : List ℕ) × ClaimsJust layout (kept ++ gone) × AreDistinct (kept ++ gone) × All (IsUsable (length layout)) gone

-- The sectors `gone` are unused now, and all other claims are unchanged.
pub record IsReleased (old new : List Bool) (gone : List ℕ) : Type 0 where
  pub size : length new ≡ length old
  pub each : (kept : List ℕ) → ClaimsJust old (kept ++ gone) → AreDistinct (kept ++ gone) → ClaimsJust new kept

-- The state no longer uses the sectors of an entry and of its bytes, nor those of the catalogues.
-- The sectors of the catalogues are unused now. The sectors of the entry and of its bytes are
-- unused too, unless the byte string is held.
abbrev pub IsGivenUp : (held left : List HeldRow) (old new : List Bool) (placed : PlacedEntry) (catalogues : List ℕ) → Type 0
IsGivenUp held left old new placed catalogues =
    (IsLeft held left placed.at × IsReleased old new catalogues)
    ⊎ (IsUnheld held placed.at × (left ≡ held) × IsReleased old new (sectors_of placed ++ catalogues))

-- Catalogues can be in these sectors of a disk of `sectors` sectors: the sectors are on the disk
-- after the roots, and no two are the same.
pub record HavePlaces (sectors : ℕ) (catalogues : List ℕ) : Type 0 where
  pub inside : All (IsUsable sectors) catalogues
  pub once : AreDistinct catalogues

-- An entry, its bytes and catalogues can be in their sectors on a disk of `sectors` sectors.
pub record HasPlace (sectors : ℕ) (placed : PlacedEntry) (catalogues : List ℕ) : Type 0 where
  pub spelling : EntryHasSpelling placed.entry
  pub on_disk : All (IsOnDisk sectors) (extents_of placed.entry)
  pub apart : AllPairs IsApart (extents_of placed.entry)
  pub inside : All (IsUsable sectors) (sectors_of placed ++ catalogues)
  pub once : AreDistinct (sectors_of placed ++ catalogues)

-- Sectors were taken for the bytes `bytes`, for their entry with the name `name`, and for `catalogues`
-- catalogues. At least `spare` sectors are still unused.
pub record IsPutTaken (old new : List Bool) (name bytes : List ℕ) (catalogues spare : ℕ) (put : PlacedEntry) (listed : List ℕ) : Type 0 where
  pub taken : IsTaken old (div_ceil (length bytes) sector_bytes) (extents_of put.entry) put.at listed
  pub claimed : IsClaimedBeside old new (sectors_of put ++ listed)
  pub count : length listed ≡ catalogues
  pub fits : EntryHasSpelling put.entry
  pub its_name : name_of put.entry ≡ name
  pub its_length : put.entry.file_length ≡ length bytes
  pub size : sector_count (extents_of put.entry) ≡ div_ceil (length bytes) sector_bytes
  pub filled : All IsDataExtent (extents_of put.entry)
  pub on_disk : All (IsOnDisk (length old)) (extents_of put.entry)
  pub apart : AllPairs IsApart (extents_of put.entry)
  pub room : cost (length bytes) + catalogues + spare ≤ unused_count old
