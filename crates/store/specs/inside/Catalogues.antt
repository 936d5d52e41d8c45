-- The sectors that a change writes one by one: those of the new catalogues.
use Rattle.std.specs.Prelude.{◌≡◌, ℕ, ◌<◌, ◌≤◌, List, [], ◌∷◌, length, take, drop, All}
use Rattle.extents.specs.Extent.{AreDistinct}
use Rattle.extents.specs.Limits.{root_sectors, most_sectors}
use Rattle.passes.specs.declared.single.SingleSector.{SingleSector}
use Rattle.roots.specs.Catalogue.{catalogue_bytes, catalogue_of_sectors}
use Rattle.states.specs.Limits.{most_libraries, most_catalogue_entries}
use Rattle.states.specs.Cost.{catalogues_for}

-- sector number `at` with a catalogue that lists these entry sectors
abbrev pub catalogue_single : ℕ → List ℕ → SingleSector
catalogue_single at sectors = record { at = at; content = catalogue_bytes (catalogue_of_sectors sectors) }

-- the sectors of the catalogues that together list these entry sectors
abbrev pub catalogue_singles : List ℕ → List ℕ → List SingleSector
catalogue_singles [] sectors = []
catalogue_singles (at ∷ catalogues) sectors =
    catalogue_single at (take most_catalogue_entries sectors) ∷ catalogue_singles catalogues (drop most_catalogue_entries sectors)

-- `catalogues` catalogues can list these entry sectors.
pub record CanBeCatalogued (catalogues : ℕ) (sectors : List ℕ) : Type 0 where
  pub enough : catalogues ≡ catalogues_for (length sectors)
  pub few : length sectors ≤ most_libraries
  pub inside : All (λ sector. (root_sectors ≤ sector) × (sector < most_sectors)) sectors
  pub distinct : AreDistinct sectors
