-- An entry: the condition for encoding it, and the sector that encodes it.
use Rattle.std.specs.Prelude.{◌≡◌, ◌≢◌, ℕ, ◌+◌, ◌-◌, ◌≤◌, List, ◌++◌, length, take, replicate, codes, sum_by}
use Rattle.std.specs.List.{flat_map}
use Rattle.std.specs.Int.{w16, w32, to_le_bytes, IsInRange, div_ceil}
use Rattle.extents.specs.declared.extent.Extent.{Extent}
use Rattle.sector_disk.specs.Disk.{sector_bytes}
use Rattle.extents.specs.Limits.{root_sectors, most_extents, most_sectors}
use Rattle.roots.specs.declared.entry.Entry.{Entry}
use Rattle.roots.specs.Limits.{least_file_bytes, most_file_bytes, most_name_bytes}
use Rattle.roots.specs.Fields.{zeros, UsesFirst}

-- a byte of a name: 0x21 to 0x7e, and no `/`
abbrev pub IsNameByte : ℕ → Type 0
IsNameByte byte = IsInRange 0x21 0x7e byte × (byte ≢ 0x2f)

-- a run of sectors that can hold a file's bytes on the largest disk
pub record IsDataExtent (extent : Extent) : Type 0 where
  pub low : root_sectors ≤ extent.start
  pub filled : 1 ≤ extent.count
  pub high : extent.start + extent.count ≤ most_sectors

-- the content of an unused place for an extent
abbrev pub no_extent : Extent
no_extent = record { start = 0; count = 0 }

-- an extent encoded as two numbers
abbrev pub extent_bytes : Extent → List ℕ
extent_bytes extent = to_le_bytes w32 extent.start ++ to_le_bytes w32 extent.count

-- the sector of an entry, field by field
unfoldable pub entry_bytes : Entry → List ℕ
entry_bytes entry =
    codes "LIBE"  -- at byte 0
    ++ to_le_bytes w32 entry.file_length  -- 4
    ++ to_le_bytes w16 entry.name_length  -- 8
    ++ to_le_bytes w16 entry.extent_count  -- 10
    ++ zeros 4  -- 12
    ++ entry.name  -- 16
    ++ flat_map extent_bytes entry.extents  -- 256

-- the name isn't empty, and its bytes fit into their places
pub record NameFits (entry : Entry) : Type 0 where
  pub some : 1 ≤ entry.name_length
  pub listed : UsesFirst most_name_bytes entry.name_length IsNameByte 0 entry.name

-- the extents fit into their places, and have exactly as many sectors as the file takes; the file
-- needn't fill the last sector
pub record ExtentsFit (entry : Entry) : Type 0 where
  pub some : 1 ≤ entry.extent_count
  pub listed : UsesFirst most_extents entry.extent_count IsDataExtent no_extent entry.extents
  pub sum : sum_by (λ extent. extent.count) (take entry.extent_count entry.extents) ≡ div_ceil entry.file_length sector_bytes

-- The limits of the fields: an entry can be encoded if and only if it keeps to these limits.
pub record EntryHasSpelling (entry : Entry) : Type 0 where
  pub file_length : IsInRange least_file_bytes most_file_bytes entry.file_length
  pub name : NameFits entry
  pub extents : ExtentsFit entry

-- a sector encodes an entry
pub record SpellsEntry (bytes : List ℕ) (entry : Entry) : Type 0 where
  pub has_spelling : EntryHasSpelling entry
  pub spelling : bytes ≡ entry_bytes entry

-- the name in an entry
abbrev pub name_of : Entry → List ℕ
name_of entry = take entry.name_length entry.name

-- the extents of an entry's file, in the order of the file
abbrev pub extents_of : Entry → List Extent
extents_of entry = take entry.extent_count entry.extents

-- the entry of a file; the places after the name and after the extents are zero
abbrev pub entry_of_file : List ℕ → ℕ → List Extent → Entry
entry_of_file name file_length extents = record {
  file_length = file_length;
  name_length = length name;
  extent_count = length extents;
  name = name ++ zeros (most_name_bytes - length name);
  extents = extents ++ replicate (most_extents - length extents) no_extent;
}
