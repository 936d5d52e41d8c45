-- The entry sectors that a root's list has.
use Rattle.std.proofs.Common.{◌≡◌, ◌↔◌, ℕ, ◌<◌, List, [], length, get_or, take, All, refl, sym, ap, ◌∙◌, arith}
use Rattle.std.proofs.lemmas.List.{length-take-le}
use Rattle.sector_disk.specs.Disk.{Sector, sector}
use Rattle.roots.specs.declared.entry_list.EntryList.{EntryList}
use Rattle.roots.specs.declared.entry_list.EntryList.TheVariants.{InRoot, InCatalogues}
use Rattle.roots.specs.declared.version.Version.TheVariants.{One, Two}
use Rattle.roots.specs.declared.root.Root.{Root}
use Rattle.states.specs.Cost.{catalogues_for}
use Rattle.roots.specs.Root.{version_of, version_of_list, used_places, listed_sectors, ListFits}
use Rattle.roots.specs.Catalogue.{SpellsCatalogue, catalogued_sectors, catalogue_of_sectors}
use Rattle.roots.proofs.CatalogueLemmas.{catalogued_sectors-catalogue_of_sectors}
use Rattle.roots.proofs.Catalogues.{one_catalogue}
use Rattle.store.specs.Stands.{catalogues_in, catalogues_of, catalogue_part, AreCatalogued, AreListed}
use Rattle.store.proofs.CatalogueParts.{same_parts}

-- The sectors that a root of version 2 lists are those of its catalogues.
catalogues_2 : (libraries : ℕ) (list : EntryList) → version_of_list list ≡ Two → used_places libraries list ≡ catalogues_in list
catalogues_2 libraries (InRoot sectors) is = absurd cc
catalogues_2 libraries (InCatalogues count sectors) is = refl

pub catalogues_are : (root : Root) → version_of root ≡ Two → listed_sectors root ≡ catalogues_of root
catalogues_are root is = catalogues_2 root.library_count root.list is

-- A root of version 1 has no catalogues.
none_in_1 : (list : EntryList) → version_of_list list ≡ One → catalogues_in list ≡ []
none_in_1 (InRoot sectors) is = refl
none_in_1 (InCatalogues count sectors) is = absurd cc

pub none_listed : (root : Root) → version_of root ≡ One → catalogues_of root ≡ []
none_listed root is = none_in_1 root.list is

-- The entry sectors of a root of version 2 are those that its catalogues list.
pub listed_2 : (m : List Sector) (libraries : ℕ) (list : EntryList) (xs : List ℕ) → version_of_list list ≡ Two
    → AreListed m libraries list xs ↔ ((length xs ≡ libraries) × AreCatalogued m (catalogues_in list) xs)
listed_2 m libraries (InRoot sectors) xs is = absurd cc
listed_2 m libraries (InCatalogues count sectors) xs is = (λ e. e, λ e. e)

-- The sectors in a root's list lie on the disk.
pub places_inside : (libraries disk : ℕ) (list : EntryList) → ListFits libraries disk list → All (λ k. k < disk) (used_places libraries list)
places_inside libraries disk (InRoot sectors) fits k d lt = (fits.listed.used k d lt).1
places_inside libraries disk (InCatalogues count sectors) fits k d lt = (fits.listed.listed.used k d lt).1

-- if one sector encodes the catalogues of two lists, the lists are the same
same_part : (content : Sector) (a b : List ℕ) → SpellsCatalogue content (catalogue_of_sectors a) → SpellsCatalogue content (catalogue_of_sectors b) → a ≡ b
same_part content a b in_a in_b =
    sym (catalogued_sectors-catalogue_of_sectors a)
    ∙ ap catalogued_sectors (one_catalogue content (catalogue_of_sectors a) (catalogue_of_sectors b) in_a in_b)
    ∙ catalogued_sectors-catalogue_of_sectors b

-- catalogues list only one list of a given length
one_cataloguing : (m : List Sector) (catalogues a b : List ℕ) → length a ≡ length b → length catalogues ≡ catalogues_for (length a)
    → AreCatalogued m catalogues a → AreCatalogued m catalogues b → a ≡ b
one_cataloguing m catalogues a b size enough in_a in_b = same_parts a b size (λ i lt.
    let lt' : i < length catalogues = omega (arith, lt, enough) in
    same_part (sector m (get_or catalogues i 0)) (catalogue_part i a) (catalogue_part i b) (in_a.each i lt') (in_b.each i lt'))

-- A list of a root that fits lists the sectors of only one list of entries.
pub one_listing : (m : List Sector) (libraries disk : ℕ) (list : EntryList) (a b : List ℕ) → ListFits libraries disk list → AreListed m libraries list a → AreListed m libraries list b → a ≡ b
one_listing m libraries disk (InRoot listed) a b fits in_a in_b = in_a ∙ sym in_b
one_listing m libraries disk (InCatalogues count listed) a b fits in_a in_b =
    one_cataloguing m (take count listed) a b (in_a.0 ∙ sym in_b.0)
    (length-take-le count listed (omega (arith, fits.listed.listed.size, fits.listed.listed.room)) ∙ fits.enough ∙ ap catalogues_for (sym in_a.0))
    in_a.1 in_b.1
