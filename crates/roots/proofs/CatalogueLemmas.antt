-- For callers: the catalogue that lists some sectors, and when it can be encoded.
use Rattle.std.proofs.Common.{◌≡◌, ℕ, ◌-◌, List, length, refl}
use Rattle.std.proofs.lemmas.List.{take_at}
use Rattle.extents.specs.Limits.{most_sectors}
use Rattle.states.specs.Limits.{most_catalogue_entries}
use Rattle.roots.specs.Fields.{zeros}
use Rattle.roots.specs.Catalogue.{catalogue_of_sectors, catalogued_sectors, SectorsFit, CatalogueHasSpelling}
use Rattle.roots.proofs.Placed.{lists_sectors}

-- A catalogue that is made from sectors lists these sectors.
pub catalogued_sectors-catalogue_of_sectors : (sectors : List ℕ) → catalogued_sectors (catalogue_of_sectors sectors) ≡ sectors
catalogued_sectors-catalogue_of_sectors sectors = take_at sectors (zeros (most_catalogue_entries - length sectors)) (length sectors) refl

-- The catalogue can be encoded if the sectors fit.
pub catalogue_of_sectors-has_spelling : (sectors : List ℕ) → SectorsFit sectors → CatalogueHasSpelling (catalogue_of_sectors sectors)
catalogue_of_sectors-has_spelling sectors fit = record {
  some = fit.some;
  sectors = lists_sectors most_catalogue_entries most_sectors sectors fit.few fit.inside fit.distinct;
}
