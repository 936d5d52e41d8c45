-- For callers: the roots that list some entries or catalogues, and some preloads, and when they can be encoded.
use Rattle.std.proofs.Common.{◌≡◌, ℕ, ◌-◌, ◌<◌, ◌≤◌, List, length, refl, sym, subst, ◌∙◌, arith}
use Rattle.std.specs.Prelude.{All}
use Rattle.std.proofs.lemmas.List.{take_at, length-take-le}
use Rattle.extents.specs.Extent.{AreDistinct}
use Rattle.roots.specs.declared.entry_list.EntryList.{EntryList}
use Rattle.roots.specs.declared.entry_list.EntryList.TheVariants.{InRoot, InCatalogues}
use Rattle.roots.specs.declared.version.Version.TheVariants.{One, Two}
use Rattle.roots.specs.declared.root.Root.{Root}
use Rattle.states.specs.Limits.{most_preloads, most_libraries}
use Rattle.roots.specs.Limits.{most_root_entries, most_catalogues}
use Rattle.states.specs.Cost.{catalogues_for}
use Rattle.roots.specs.Fields.{zeros}
use Rattle.roots.proofs.Placed.{uses_first, lists_sectors}
use Rattle.roots.specs.Root.{root_with, root_over_catalogues, version_of, version_of_list, used_places, listed_sectors}
use Rattle.roots.specs.Root.{listed_preloads, ListFits, PreloadsFit, CataloguesFit, RootHasSpelling}

pub listed_sectors-root_over_catalogues : (generation sectors libraries : ℕ) (catalogues preloads : List ℕ)
    → listed_sectors (root_over_catalogues generation sectors libraries catalogues preloads) ≡ catalogues
listed_sectors-root_over_catalogues generation sectors libraries catalogues preloads = take_at catalogues (zeros (most_catalogues - length catalogues)) (length catalogues) refl

pub listed_preloads-root_with : (generation sectors libraries : ℕ) (list : EntryList) (preloads : List ℕ) → listed_preloads (root_with generation sectors libraries list preloads) ≡ preloads
listed_preloads-root_with generation sectors libraries list preloads = take_at preloads (zeros (most_preloads - length preloads)) (length preloads) refl

pub listed_preloads-root_over_catalogues : (generation sectors libraries : ℕ) (catalogues preloads : List ℕ)
    → listed_preloads (root_over_catalogues generation sectors libraries catalogues preloads) ≡ preloads
listed_preloads-root_over_catalogues generation sectors libraries catalogues preloads = take_at preloads (zeros (most_preloads - length preloads)) (length preloads) refl

preloads_fit : (generation sectors libraries : ℕ) (list : EntryList) (preloads : List ℕ) → length preloads ≤ most_preloads → All (λ position. position < libraries) preloads → AreDistinct preloads
    → PreloadsFit (root_with generation sectors libraries list preloads)
preloads_fit generation sectors libraries list preloads few inside distinct = record {
  listed = uses_first most_preloads preloads 0 (λ position. position < libraries) few inside;
  distinct = subst AreDistinct (sym (listed_preloads-root_with generation sectors libraries list preloads)) distinct;
}

pub root_over_catalogues-has_spelling : (generation sectors libraries : ℕ) (catalogues preloads : List ℕ)
    → CataloguesFit generation sectors libraries catalogues preloads
    → RootHasSpelling (root_over_catalogues generation sectors libraries catalogues preloads)
root_over_catalogues-has_spelling generation sectors libraries catalogues preloads fit = record {
  generation = fit.generation_fits;
  sectors = fit.sectors_fit;
  preloads = preloads_fit generation sectors libraries _ preloads fit.few_preloads fit.preloads_inside fit.preloads_distinct;
  list = record {
    few = fit.few_libraries;
    enough = fit.enough;
    listed = lists_sectors most_catalogues sectors catalogues (omega (arith, fit.few_libraries, fit.enough)) fit.catalogues_inside fit.catalogues_distinct;
  };
}

-- A root of version 1 lists as many entries as it counts libraries.
places_1 : (libraries disk : ℕ) (list : EntryList) → ListFits libraries disk list → version_of_list list ≡ One → (length (used_places libraries list) ≡ libraries) × (libraries ≤ most_root_entries)
places_1 libraries disk (InRoot sectors) fits is = (length-take-le libraries sectors (omega (arith, fits.listed.size, fits.listed.room)), fits.listed.room)
places_1 libraries disk (InCatalogues count sectors) fits is = absurd cc

-- A root of version 2 lists as many catalogues as are needed for its libraries.
places_2 : (libraries disk : ℕ) (list : EntryList) → ListFits libraries disk list → version_of_list list ≡ Two
    → (length (used_places libraries list) ≡ catalogues_for libraries) × (libraries ≤ most_libraries)
places_2 libraries disk (InRoot sectors) fits is = absurd cc
places_2 libraries disk (InCatalogues count sectors) fits is =
    (length-take-le count sectors (omega (arith, fits.listed.listed.size, fits.listed.listed.room)) ∙ fits.enough, fits.few)

pub length-listed_2 : (root : Root) → RootHasSpelling root → version_of root ≡ Two → length (listed_sectors root) ≡ catalogues_for root.library_count
length-listed_2 root fits is = (places_2 root.library_count root.sectors root.list fits.list is).0

pub few_2 : (root : Root) → RootHasSpelling root → version_of root ≡ Two → root.library_count ≤ most_libraries
few_2 root fits is = (places_2 root.library_count root.sectors root.list fits.list is).1
