-- The fields at their offsets, in bytes.
use Rattle.std.specs.Prelude.{ℕ, ◌+◌, ◌*◌, ◌==◌, List, map, take, drop, if◌then◌else◌}
use Rattle.std.specs.List.{range_with_len, starts_with}
use Rattle.std.specs.Int.{Width, w16, w32, w64, from_le_bytes}
use Rattle.extents.specs.declared.extent.Extent.{Extent}
use Rattle.extents.specs.Limits.{most_extents}
use Rattle.states.specs.Limits.{most_preloads, most_catalogue_entries}
use Rattle.roots.specs.Limits.{most_root_entries, most_catalogues, most_name_bytes}
use Rattle.roots.specs.declared.entry_list.EntryList.{EntryList}
use Rattle.roots.specs.declared.entry_list.EntryList.TheVariants.{InRoot, InCatalogues}
use Rattle.roots.specs.Root.{magic_2}
use Rattle.roots.specs.declared.root.Root.{Root}
use Rattle.roots.specs.declared.catalogue.Catalogue.{Catalogue}
use Rattle.roots.specs.declared.entry.Entry.{Entry}

-- the number whose bytes begin at offset `at`
abbrev pub number_at : Width → ℕ → List ℕ → ℕ
number_at w at bytes = from_le_bytes w (drop at bytes)

-- the extent that the first eight of these bytes encode
abbrev pub extent_of : List ℕ → Extent
extent_of bytes = record { start = from_le_bytes w32 bytes; count = from_le_bytes w32 (drop 4 bytes) }

-- n values, which begin `step` bytes apart
unfoldable pub values_at : {A : Type 0} → (List ℕ → A) → ℕ → ℕ → ℕ → List ℕ → List A
values_at read step n at bytes = map (λ k. read (drop (at + step * k) bytes)) (range_with_len 0 n)

-- the list in a root sector: a list of catalogues or of entries, depending on the sector's magic
unfoldable pub list_of : List ℕ → EntryList
list_of bytes =
    if starts_with (λ a b. a == b) bytes magic_2
    then InCatalogues (number_at w16 56 bytes) (values_at (from_le_bytes w32) 4 most_catalogues 64 bytes)
    else InRoot (values_at (from_le_bytes w32) 4 most_root_entries 64 bytes)

-- the contents of the fields of a root sector
unfoldable pub root_of : List ℕ → Root
root_of bytes = record {
  generation = number_at w64 8 bytes;
  sectors = number_at w32 16 bytes;
  library_count = number_at w16 20 bytes;
  preload_count = number_at w16 22 bytes;
  preloads = values_at (from_le_bytes w16) 2 most_preloads 24 bytes;
  list = list_of bytes;
}

-- the contents of the fields of a catalogue sector
unfoldable pub catalogue_of : List ℕ → Catalogue
catalogue_of bytes = record {
  count = number_at w16 4 bytes;
  entry_sectors = values_at (from_le_bytes w32) 4 most_catalogue_entries 16 bytes;
}

-- the contents of the fields of an entry sector
unfoldable pub entry_of : List ℕ → Entry
entry_of bytes = record {
  file_length = number_at w32 4 bytes;
  name_length = number_at w16 8 bytes;
  extent_count = number_at w16 10 bytes;
  name = take most_name_bytes (drop 16 bytes);
  extents = values_at extent_of 8 most_extents 256 bytes;
}
