-- A root of version 1 or 2: the condition for encoding it, and the sector that encodes it.
use Rattle.std.specs.Prelude.{◌≡◌, ℕ, ◌-◌, ◌<◌, ◌≤◌, ◌^◌, List, [], ◌∷◌, ◌++◌, length, take, codes, All, Contains}
use Rattle.std.specs.Int.{w16, w32, w64, to_le_bytes, IsInRange}
use Rattle.extents.specs.Limits.{root_sectors, most_sectors}
use Rattle.extents.specs.Extent.{AreDistinct}
use Rattle.roots.specs.declared.entry_list.EntryList.{EntryList}
use Rattle.roots.specs.declared.entry_list.EntryList.TheVariants.{InRoot, InCatalogues}
use Rattle.roots.specs.declared.version.Version.{Version}
use Rattle.roots.specs.declared.version.Version.TheVariants.{One, Two}
use Rattle.roots.specs.declared.root.Root.{Root}
use Rattle.states.specs.Limits.{least_sectors, most_preloads, most_libraries}
use Rattle.roots.specs.Limits.{most_root_entries, most_catalogues}
use Rattle.states.specs.Cost.{catalogues_for}
use Rattle.roots.specs.Fields.{zeros, numbers, UsesFirst, ListsSectors}

-- the first bytes of root sectors of version 1
abbrev pub magic_1 : List ℕ
magic_1 = codes "RLIBREG1"

-- the first bytes of root sectors of version 2
abbrev pub magic_2 : List ℕ
magic_2 = codes "RLIBREG2"

-- the first bytes of root sectors of every version
abbrev pub root_magics : List (List ℕ)
root_magics = magic_1 ∷ magic_2 ∷ []

-- the version of a disk whose roots have a list of this form
abbrev pub version_of_list : EntryList → Version
version_of_list (InRoot sectors) = One
version_of_list (InCatalogues count sectors) = Two

-- the version of a root
abbrev pub version_of : Root → Version
version_of root = version_of_list root.list

-- the first bytes of the sector of a root, by the version of its list
abbrev pub magic_of : EntryList → List ℕ
magic_of (InRoot sectors) = magic_1
magic_of (InCatalogues count sectors) = magic_2

-- the sector begins with the magic of a version; it may encode a root or not
abbrev pub HasMagic : List ℕ → Type 0
HasMagic bytes = Contains root_magics (take 8 bytes)

-- the sector has no magic: no root was written to it
abbrev pub LacksMagic : List ℕ → Type 0
LacksMagic bytes = ¬ HasMagic bytes

-- the last 456 bytes of a root's sector, which encode the list
abbrev pub list_bytes : EntryList → List ℕ
list_bytes (InRoot sectors) =
    zeros 8  -- at byte 56
    ++ numbers w32 sectors  -- 64
    ++ zeros 48  -- 464
list_bytes (InCatalogues count sectors) =
    to_le_bytes w16 count  -- at byte 56
    ++ zeros 6  -- 58
    ++ numbers w32 sectors  -- 64
    ++ zeros 320  -- 192

-- the sector of a root, field by field
unfoldable pub root_bytes : Root → List ℕ
root_bytes root =
    magic_of root.list  -- at byte 0
    ++ to_le_bytes w64 root.generation  -- 8
    ++ to_le_bytes w32 root.sectors  -- 16
    ++ to_le_bytes w16 root.library_count  -- 20
    ++ to_le_bytes w16 root.preload_count  -- 22
    ++ numbers w16 root.preloads  -- 24
    ++ list_bytes root.list  -- 56

-- the preloads fit into their places: each of them is a position in the list of libraries, and no
-- position occurs twice
pub record PreloadsFit (root : Root) : Type 0 where
  pub listed : UsesFirst most_preloads root.preload_count (λ position. position < root.library_count) 0 root.preloads
  pub distinct : AreDistinct (take root.preload_count root.preloads)

-- The catalogues' sectors fit into their places and lie on the disk. The number of catalogues is the
-- number that `libraries` libraries need.
pub record CatalogueListFits (libraries disk count : ℕ) (sectors : List ℕ) : Type 0 where
  pub few : libraries ≤ most_libraries
  pub enough : count ≡ catalogues_for libraries
  pub listed : ListsSectors most_catalogues count disk sectors

-- the sectors that a root of `libraries` libraries lists fit into their places, on a disk of `disk`
-- sectors; in version 1 these are the sectors of the libraries' entries, and in version 2 those of
-- the catalogues
abbrev pub ListFits : ℕ → ℕ → EntryList → Type 0
ListFits libraries disk (InRoot sectors) = ListsSectors most_root_entries libraries disk sectors
ListFits libraries disk (InCatalogues count sectors) = CatalogueListFits libraries disk count sectors

-- The limits of the fields: a root can be encoded if and only if it keeps to these limits.
pub record RootHasSpelling (root : Root) : Type 0 where
  pub generation : root.generation < 2 ^ 64
  pub sectors : IsInRange least_sectors most_sectors root.sectors
  pub preloads : PreloadsFit root
  pub list : ListFits root.library_count root.sectors root.list

-- a sector encodes a root
pub record SpellsRoot (bytes : List ℕ) (root : Root) : Type 0 where
  pub has_spelling : RootHasSpelling root
  pub spelling : bytes ≡ root_bytes root

-- the used places of a list
abbrev pub used_places : ℕ → EntryList → List ℕ
used_places libraries (InRoot sectors) = take libraries sectors
used_places libraries (InCatalogues count sectors) = take count sectors

-- the sectors that a root itself lists: in version 1 those of the entries, and in version 2 those
-- of the catalogues
abbrev pub listed_sectors : Root → List ℕ
listed_sectors root = used_places root.library_count root.list

-- the positions of the preloads that a root lists
abbrev pub listed_preloads : Root → List ℕ
listed_preloads root = take root.preload_count root.preloads

-- the root of `libraries` libraries with this list and these preloads; the places after the
-- preloads are zero
abbrev pub root_with : ℕ → ℕ → ℕ → EntryList → List ℕ → Root
root_with generation sectors libraries list preloads = record {
  generation = generation;
  sectors = sectors;
  library_count = libraries;
  preload_count = length preloads;
  preloads = preloads ++ zeros (most_preloads - length preloads);
  list = list;
}

-- the root of version 1 that lists these entries
abbrev pub root_over_entries : ℕ → ℕ → List ℕ → List ℕ → Root
root_over_entries generation sectors entries preloads =
    root_with generation sectors (length entries) (InRoot (entries ++ zeros (most_root_entries - length entries))) preloads

-- the root of version 2 that counts `libraries` libraries and lists these catalogues
abbrev pub root_over_catalogues : ℕ → ℕ → ℕ → List ℕ → List ℕ → Root
root_over_catalogues generation sectors libraries catalogues preloads =
    root_with generation sectors libraries (InCatalogues (length catalogues) (catalogues ++ zeros (most_catalogues - length catalogues))) preloads

-- A root of version 2 with these parameters can be encoded.
pub record CataloguesFit (generation sectors libraries : ℕ) (catalogues preloads : List ℕ) : Type 0 where
  pub generation_fits : generation < 2 ^ 64
  pub sectors_fit : IsInRange least_sectors most_sectors sectors
  pub few_libraries : libraries ≤ most_libraries
  pub enough : length catalogues ≡ catalogues_for libraries
  pub few_preloads : length preloads ≤ most_preloads
  pub catalogues_inside : All (λ sector. (root_sectors ≤ sector) × (sector < sectors)) catalogues
  pub catalogues_distinct : AreDistinct catalogues
  pub preloads_inside : All (λ position. position < libraries) preloads
  pub preloads_distinct : AreDistinct preloads
