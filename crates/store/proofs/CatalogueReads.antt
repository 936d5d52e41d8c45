-- The progress of reading catalogues.
use Rattle.std.proofs.Common.{◌≡◌, ◌≢◌, ⊎_elim, ◌↔◌, ℕ, ◌+◌, ◌-◌, ◌*◌, ◌<◌, ◌≤◌, min, List, [], ◌++◌, length, get_or, drop, Option, Some, None}
use Rattle.std.proofs.Common.{Result, Ok, IsTrue, refl, sym, ap, subst, ◌∙◌, arith, length-append}
use Rattle.std.proofs.lemmas.List.{same_lists, length-drop, length-take, length-take-le, length-replicate, get_or-replicate, take-append-drop}
use Rattle.std.proofs.lemmas.Bool.{cases_lt}
use Rattle.sector_disk.specs.Disk.{Sector, sector, DiskFacts, IsCall, IsRead, AreCallsAtMost}
use Rattle.passes.specs.Calls.{AreReads}
use Rattle.passes.proofs.Readings.{more_reads, no_reads}
use Rattle.passes.proofs.Rows.{CallsSoFar, so_far_in_row, then_in_row, in_row_at_most, one_in_row, none_in_row}
use Rattle.roots.specs.declared.catalogue.Catalogue.{Catalogue}
use Rattle.roots.specs.Fields.{zeros}
use Rattle.states.specs.Cost.{catalogues_for}
use Rattle.roots.specs.Catalogue.{CatalogueHasSpelling, SpellsCatalogue, catalogued_sectors, catalogue_of_sectors}
use Rattle.roots.proofs.CatalogueLemmas.{catalogued_sectors-catalogue_of_sectors}
use Rattle.store.specs.Stands.{catalogue_part, AreCatalogued}
use Rattle.store.proofs.CatalogueParts.{part-append, part-behind}

-- A catalogue lists as many sectors as it counts, at most 64.
pub length-catalogued : (catalogue : Catalogue) → CatalogueHasSpelling catalogue → (length (catalogued_sectors catalogue) ≡ catalogue.count) × (catalogue.count ≤ 64)
length-catalogued catalogue fits = (length-take-le catalogue.count catalogue.entry_sectors (omega (arith, fits.sectors.listed.size, fits.sectors.listed.room)), fits.sectors.listed.room)

-- A catalogue is the catalogue of the sectors that it lists.
pub catalogue_again : (catalogue : Catalogue) → CatalogueHasSpelling catalogue → catalogue_of_sectors (catalogued_sectors catalogue) ≡ catalogue
catalogue_again catalogue fits = λ i. record { count = size i; entry_sectors = (tail ∙ take-append-drop catalogue.count catalogue.entry_sectors) i }
  where
    size : length (catalogued_sectors catalogue) ≡ catalogue.count
    size = (length-catalogued catalogue fits).0

    unused : List ℕ
    unused = drop catalogue.count catalogue.entry_sectors

    rest : ℕ
    rest = 64 - length (catalogued_sectors catalogue)

    long : length unused ≡ rest
    long = omega (arith, size, length-drop catalogue.count catalogue.entry_sectors, fits.sectors.listed.size)

    zero_there : zeros rest ≡ unused
    zero_there = same_lists (zeros rest) unused
        (length-replicate {A = ℕ} rest 0 ∙ sym long)
        (λ k d lt.
        let lt' : k < rest = omega (arith, lt, length-replicate {A = ℕ} rest 0) in
        get_or-replicate {A = ℕ} rest k 0 d lt' ∙ sym (fits.sectors.listed.rest k d (omega (arith, lt', long))))

    tail : catalogued_sectors catalogue ++ zeros rest ≡ catalogued_sectors catalogue ++ unused
    tail = ap (λ l. catalogued_sectors catalogue ++ l) zero_there

-- after fewer than `most` calls and one more call, at most `most` calls were made
pub one_call_more : {first old new : DiskFacts} {T E : Type 0} {result : Result T E} {done most : ℕ} → CallsSoFar done first old → IsCall old new result → done < most → AreCallsAtMost most first new
one_call_more so_far call le = in_row_at_most (then_in_row so_far (one_in_row call)) (omega (arith, le))

-- `done` catalogues were read, and `listed` are the sectors in them. All of these catalogues are full, except
-- perhaps the last.
pub record CataloguesSoFar (first current : DiskFacts) (catalogues : List ℕ) (libraries done : ℕ) (listed : List ℕ) : Type 0 where
  pub calls : CallsSoFar done first current
  pub reads : IsTrue first.honest → AreReads first current
  pub count : length listed ≡ min (64 * done) libraries
  pub spelt : IsTrue first.honest → (i : ℕ) → i < done → SpellsCatalogue (sector first.now (get_or catalogues i 0)) (catalogue_of_sectors (catalogue_part i listed))

pub no_catalogues : (first : DiskFacts) (catalogues : List ℕ) (libraries : ℕ) → CataloguesSoFar first first catalogues libraries 0 []
no_catalogues first catalogues libraries = record {
  calls = none_in_row first;
  reads = λ honest. no_reads first;
  count = omega arith;
  spelt = λ honest i lt. absurd (omega (arith, lt));
}

module _ {first old new : DiskFacts} {catalogues : List ℕ} {libraries done : ℕ} {listed : List ℕ}
    (so_far : CataloguesSoFar first old catalogues libraries done listed) (enough : length catalogues ≡ catalogues_for libraries)
    (lt : done < length catalogues) {content : Sector} {E : Type 0} {found : Option Catalogue}
    (call : IsCall {T = Option Catalogue} {E = E} old new (Ok found))
    (read : IsTrue old.honest → IsRead {T = Option Catalogue} {E = E} old new (get_or catalogues done 0) content (Ok found))
    (is : (catalogue : Catalogue) → (found ≡ Some catalogue) ↔ SpellsCatalogue content catalogue) where
  at_old : IsTrue first.honest → IsTrue old.honest
  at_old honest = subst IsTrue (sym so_far.calls.honest) honest

  here : IsTrue first.honest → content ≡ sector first.now (get_or catalogues done 0)
  here honest = (read (at_old honest)).ok ∙ ap (λ m. sector m (get_or catalogues done 0)) (so_far.reads honest).same.now

  -- the catalogues before this one are full
  full : length listed ≡ 64 * done
  full = omega (arith, so_far.count, enough, lt)

  -- if one more catalogue is read, and it has the count that it must have, the reading is one catalogue further
  pub next_catalogue : (catalogue : Catalogue) → found ≡ Some catalogue → length (catalogued_sectors catalogue) ≡ min (libraries - length listed) 64
      → CataloguesSoFar first new catalogues libraries (done + 1) (listed ++ catalogued_sectors catalogue)
  next_catalogue catalogue was size = record {
    calls = so_far_in_row refl so_far.calls (one_in_row call);
    reads = λ honest. more_reads (so_far.reads honest) call (read (at_old honest));
    count = omega (arith, length-append listed (catalogued_sectors catalogue), size, full);
    spelt = λ honest i before. ⊎_elim (earlier honest i) (λ le. last honest i (omega (arith, le, before))) (cases_lt i done);
  }
    where
      spells : SpellsCatalogue content catalogue
      spells = (is catalogue).0 was

      more : List ℕ
      more = listed ++ catalogued_sectors catalogue

      earlier : IsTrue first.honest → (i : ℕ) → i < done → SpellsCatalogue (sector first.now (get_or catalogues i 0)) (catalogue_of_sectors (catalogue_part i more))
      earlier honest i before = subst (λ part. SpellsCatalogue (sector first.now (get_or catalogues i 0)) (catalogue_of_sectors part))
          (sym (part-append i listed (catalogued_sectors catalogue) (omega (arith, before, full)))) (so_far.spelt honest i before)

      here_is : catalogue_of_sectors (catalogue_part done more) ≡ catalogue
      here_is =
          ap catalogue_of_sectors (part-behind done listed (catalogued_sectors catalogue) full
          (omega (arith, (length-catalogued catalogue spells.has_spelling).0, (length-catalogued catalogue spells.has_spelling).1)))
          ∙ catalogue_again catalogue spells.has_spelling

      last : IsTrue first.honest → (i : ℕ) → done ≡ i → SpellsCatalogue (sector first.now (get_or catalogues i 0)) (catalogue_of_sectors (catalogue_part i more))
      last honest i same = subst (λ k. SpellsCatalogue (sector first.now (get_or catalogues k 0)) (catalogue_of_sectors (catalogue_part k more))) same
          (subst (SpellsCatalogue (sector first.now (get_or catalogues done 0))) (sym here_is)
          (subst (λ c. SpellsCatalogue c catalogue) (here honest) spells))

  -- The next read, if the catalogues list `sectors`.
  module _ (honest : IsTrue first.honest) (sectors : List ℕ) (size : length sectors ≡ libraries) (catalogued : AreCatalogued first.now catalogues sectors) where
    pub found_is : found ≡ Some (catalogue_of_sectors (catalogue_part done sectors))
    found_is = (is (catalogue_of_sectors (catalogue_part done sectors))).1
        (subst (λ c. SpellsCatalogue c (catalogue_of_sectors (catalogue_part done sectors))) (sym (here honest)) (catalogued.each done lt))

    -- if the catalogues list `sectors`, the next catalogue's sector encodes a catalogue
    pub no_catalogue_there : found ≡ None → ⊥
    no_catalogue_there was = let e = found_is in absurd cc

    -- if the catalogues list `sectors`, the next catalogue has the count that it must have
    pub wrong_count_there : (catalogue : Catalogue) → found ≡ Some catalogue → length (catalogued_sectors catalogue) ≢ min (libraries - length listed) 64 → ⊥
    wrong_count_there catalogue was other = other (
        ap (λ (c : Catalogue). length (catalogued_sectors c)) (let e = found_is in let e' : catalogue ≡ catalogue_of_sectors (catalogue_part done sectors) = cc in e')
        ∙ ap length (catalogued_sectors-catalogue_of_sectors (catalogue_part done sectors))
        ∙ omega (arith, length-take 64 (drop (64 * done) sectors), length-drop (64 * done) sectors, size, full)
        )

-- All catalogues were read.
module _ {first current : DiskFacts} {catalogues : List ℕ} {libraries done : ℕ} {listed : List ℕ}
    (so_far : CataloguesSoFar first current catalogues libraries done listed) (all : length catalogues ≤ done) where
  pub all_count : length catalogues ≡ catalogues_for libraries → length listed ≡ libraries
  all_count enough = omega (arith, so_far.count, enough, all)

  pub all_catalogued : IsTrue first.honest → AreCatalogued first.now catalogues listed
  all_catalogued honest = record { each = λ i lt. so_far.spelt honest i (omega (arith, lt, all)) }
