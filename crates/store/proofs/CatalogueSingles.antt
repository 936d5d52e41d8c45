-- The catalogues of a list of sectors, one by one.
use Rattle.std.proofs.Common.{◌≡◌, ℕ, zero, suc, ◌+◌, ◌*◌, ◌<◌, ◌≤◌, List, [], ◌∷◌, length, take, drop, get_or, drop-cons, refl, sym, ap, subst, ◌∙◌, arith}
use Rattle.std.proofs.lemmas.List.{length-take, length-drop, length-map, drop-drop, get_or-take, get_or-drop}
use Rattle.std.proofs.lemmas.List.Elements.{All-take, All-drop}
use Rattle.sector_disk.specs.Disk.{Sector, sector}
use Rattle.extents.specs.Extent.{AreDistinct}
use Rattle.extents.specs.Limits.{root_sectors, most_sectors}
use Rattle.passes.specs.Singles.{single_places, HoldsSingles}
use Rattle.passes.specs.declared.single.SingleSector.{SingleSector}
use Rattle.roots.specs.Catalogue.{SectorsFit, SpellsCatalogue, catalogue_of_sectors}
use Rattle.roots.proofs.CatalogueLemmas.{catalogue_of_sectors-has_spelling}
use Rattle.store.specs.Stands.{AreCatalogued, catalogue_part}
use Rattle.store.specs.inside.Catalogues.{CanBeCatalogued, catalogue_single, catalogue_singles}

-- If no number occurs twice in a list, none occurs twice among its first elements.
distinct-take : (n : ℕ) (xs : List ℕ) → AreDistinct xs → AreDistinct (take n xs)
distinct-take n xs once i j d before lt same =
    let early : j < n = omega (arith, lt, length-take n xs) in
    once i j d before (omega (arith, lt, length-take n xs))
    (sym (get_or-take n xs i d (omega (arith, before, early))) ∙ same ∙ get_or-take n xs j d early)

distinct-drop : (n : ℕ) (xs : List ℕ) → AreDistinct xs → AreDistinct (drop n xs)
distinct-drop n xs once i j d before lt same =
    once (n + i) (n + j) d (omega (arith, before)) (omega (arith, lt, length-drop n xs))
    (sym (get_or-drop n xs i d) ∙ same ∙ get_or-drop n xs j d)

-- the first part of a list of sectors fits into one catalogue
pub part_fits : (catalogues : ℕ) (sectors : List ℕ) → 0 < catalogues → CanBeCatalogued catalogues sectors → SectorsFit (take 64 sectors)
part_fits catalogues sectors some can = record {
  some = omega (arith, some, can.enough, length-take 64 sectors);
  few = omega (arith, length-take 64 sectors);
  inside = All-take (λ sector. (root_sectors ≤ sector) × (sector < most_sectors)) 64 sectors can.inside;
  distinct = distinct-take 64 sectors can.distinct;
}

-- one catalogue fewer can list the elements after the first part
pub rest_fits : (catalogues fewer : ℕ) (sectors : List ℕ) → catalogues ≡ fewer + 1 → CanBeCatalogued catalogues sectors → CanBeCatalogued fewer (drop 64 sectors)
rest_fits catalogues fewer sectors one_less can = record {
  enough = omega (arith, one_less, can.enough, length-drop 64 sectors);
  few = omega (arith, can.few, length-drop 64 sectors);
  inside = All-drop (λ sector. (root_sectors ≤ sector) × (sector < most_sectors)) 64 sectors can.inside;
  distinct = distinct-drop 64 sectors can.distinct;
}

-- The single sectors for the catalogues are at the places `catalogues`.
pub places-catalogue_singles : (catalogues sectors : List ℕ) → single_places (catalogue_singles catalogues sectors) ≡ catalogues
places-catalogue_singles [] sectors = refl
places-catalogue_singles (at ∷ catalogues) sectors = ap (λ l. at ∷ l) (places-catalogue_singles catalogues (drop 64 sectors))

-- The number of single sectors is the number of their places.
pub length-singles : (singles : List SingleSector) (places : List ℕ) → single_places singles ≡ places → length singles ≡ length places
length-singles singles places is = sym (length-map singles (λ (s : SingleSector). s.at)) ∙ ap length is

-- The single sectors from position `i` on are the catalogue at position `i`, followed by those after it.
pub next_single : (i : ℕ) (catalogues sectors : List ℕ) → i < length catalogues
    → catalogue_singles (drop i catalogues) sectors ≡ catalogue_single (get_or catalogues i 0) (take 64 sectors) ∷ catalogue_singles (drop (i + 1) catalogues) (drop 64 sectors)
next_single i catalogues sectors lt =
    let next : suc i ≡ i + 1 = omega arith in
    ap (λ l. catalogue_singles l sectors) (drop-cons catalogues i 0 lt ∙ ap (λ n. get_or catalogues i 0 ∷ drop n catalogues) next)

-- Part `i` of the elements after the first part is part `i + 1` of the whole list.
part-next : (i : ℕ) (sectors : List ℕ) → catalogue_part i (drop 64 sectors) ≡ catalogue_part (suc i) sectors
part-next i sectors = ap (take 64) (drop-drop (64 * i) 64 sectors ∙ ap (λ n. drop n sectors) (let e : 64 + 64 * i ≡ 64 * suc i = omega arith in e))

-- if the sectors hold all single sectors, they hold all except the first
pub held_rest : (m : List Sector) (single : SingleSector) (others : List SingleSector) → HoldsSingles m (single ∷ others) → HoldsSingles m others
held_rest m single others held i d lt = held (suc i) d (omega (arith, lt))

-- Sectors that hold the catalogues encode the parts of the list.
spelt : (m : List Sector) (catalogues sectors : List ℕ) → CanBeCatalogued (length catalogues) sectors → HoldsSingles m (catalogue_singles catalogues sectors)
    → (i : ℕ) → i < length catalogues → SpellsCatalogue (sector m (get_or catalogues i 0)) (catalogue_of_sectors (catalogue_part i sectors))
spelt m [] sectors can held i lt = absurd (omega (arith, lt))
spelt m (at ∷ catalogues) sectors can held zero lt = record {
  has_spelling = catalogue_of_sectors-has_spelling (take 64 sectors) (part_fits (length (at ∷ catalogues)) sectors (omega arith) can);
  spelling = held 0 (record { at = 0; content = [] }) (omega arith);
}
spelt m (at ∷ catalogues) sectors can held (suc i) lt =
    subst (λ part. SpellsCatalogue (sector m (get_or catalogues i 0)) (catalogue_of_sectors part)) (part-next i sectors)
    (spelt m catalogues (drop 64 sectors) (rest_fits (length (at ∷ catalogues)) (length catalogues) sectors (omega arith) can) (held_rest m _ _ held) i (omega (arith, lt)))

pub held_catalogues : (m : List Sector) (catalogues sectors : List ℕ) → CanBeCatalogued (length catalogues) sectors
    → HoldsSingles m (catalogue_singles catalogues sectors) → AreCatalogued m catalogues sectors
held_catalogues m catalogues sectors can held = record { each = spelt m catalogues sectors can held }
