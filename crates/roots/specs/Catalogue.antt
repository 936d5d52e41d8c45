-- A catalogue: the condition for encoding it, and the sector that encodes it.
use Rattle.std.specs.Prelude.{◌≡◌, ℕ, ◌-◌, ◌<◌, ◌≤◌, List, ◌++◌, length, take, codes, All}
use Rattle.std.specs.Int.{w16, w32, to_le_bytes}
use Rattle.extents.specs.Limits.{root_sectors, most_sectors}
use Rattle.extents.specs.Extent.{AreDistinct}
use Rattle.roots.specs.declared.catalogue.Catalogue.{Catalogue}
use Rattle.states.specs.Limits.{most_catalogue_entries}
use Rattle.roots.specs.Fields.{zeros, numbers, ListsSectors}

-- the sector of a catalogue, field by field
unfoldable pub catalogue_bytes : Catalogue → List ℕ
catalogue_bytes catalogue =
    codes "LIBC"  -- at byte 0
    ++ to_le_bytes w16 catalogue.count  -- 4
    ++ zeros 10  -- 6
    ++ numbers w32 catalogue.entry_sectors  -- 16
    ++ zeros 240  -- 272

-- The limits of the fields: a catalogue can be encoded if and only if it keeps to these limits. A
-- catalogue lists at least one entry. It doesn't have the size of its disk, so it may list any
-- sectors of the largest disk.
pub record CatalogueHasSpelling (catalogue : Catalogue) : Type 0 where
  pub some : 1 ≤ catalogue.count
  pub sectors : ListsSectors most_catalogue_entries catalogue.count most_sectors catalogue.entry_sectors

-- a sector encodes a catalogue
pub record SpellsCatalogue (bytes : List ℕ) (catalogue : Catalogue) : Type 0 where
  pub has_spelling : CatalogueHasSpelling catalogue
  pub spelling : bytes ≡ catalogue_bytes catalogue

-- the sectors of the entries that a catalogue lists
abbrev pub catalogued_sectors : Catalogue → List ℕ
catalogued_sectors catalogue = take catalogue.count catalogue.entry_sectors

-- the catalogue that lists these sectors; the places after them are zero
abbrev pub catalogue_of_sectors : List ℕ → Catalogue
catalogue_of_sectors sectors = record {
  count = length sectors;
  entry_sectors = sectors ++ zeros (most_catalogue_entries - length sectors);
}

-- One catalogue can list these sectors: there are 1 to 64, they lie after the roots on the largest
-- disk, and no sector occurs twice.
pub record SectorsFit (sectors : List ℕ) : Type 0 where
  pub some : 1 ≤ length sectors
  pub few : length sectors ≤ most_catalogue_entries
  pub inside : All (λ sector. (root_sectors ≤ sector) × (sector < most_sectors)) sectors
  pub distinct : AreDistinct sectors
