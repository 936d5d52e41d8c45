-- The progress of the writes of single sectors, and the effect of one more write.
use Rattle.std.proofs.Common.{◌≡◌, ◌≢◌, ⊎_elim, ℕ, ◌+◌, ◌<◌, ◌≤◌, List, [], ◌∷◌, length, get_or, set, sym, ap, subst, ◌∙◌, arith, IsTrue}
use Rattle.std.specs.List.{Contains}
use Rattle.std.specs.Prelude.{Result}
use Rattle.std.proofs.lemmas.Bool.{cases_lt}
use Rattle.std.proofs.lemmas.List.{get_or-map, length-map, get_or-set_same, get_or-set_other}
use Rattle.std.proofs.lemmas.List.Elements.{Contains-get_or, All-get_or}
use Rattle.sector_disk.specs.Disk.{Sector, sector, DiskFacts, HoldsNow, IsCall, IsWrite, LeavesOnly, SameBut, IsMixtureBut}
use Rattle.sector_disk.proofs.Writes.{write_leaves, write_others}
use Rattle.extents.specs.Extent.{AreDistinct}
use Rattle.passes.specs.Singles.{single_places, HoldsSingles}
use Rattle.passes.specs.declared.single.SingleSector.{SingleSector}
use Rattle.passes.proofs.Rows.{CallsSoFar}

-- the default for an element past the end
abbrev pub no_single : SingleSector
no_single = record { at = 0; content = [] }

-- place number i in the list is the place of single sector number i
place_is : (singles : List SingleSector) (i : ℕ) (d : SingleSector) → i < length singles → get_or (single_places singles) i 0 ≡ (get_or singles i d).at
place_is singles i d lt = get_or-map (λ (s : SingleSector). s.at) singles i d 0 lt

pub place_among : (singles : List SingleSector) (i : ℕ) (d : SingleSector) → i < length singles → Contains (single_places singles) (get_or singles i d).at
place_among singles i d lt =
    subst (Contains (single_places singles)) (place_is singles i d lt)
    (Contains-get_or (single_places singles) i 0 (omega (arith, lt, length-map singles (λ (s : SingleSector). s.at))))

-- the places of two single sectors differ
places_differ : (singles : List SingleSector) (i j : ℕ) (d : SingleSector) → AreDistinct (single_places singles) → i < j → j < length singles → (get_or singles i d).at ≢ (get_or singles j d).at
places_differ singles i j d once before lt same =
    once i j 0 before (omega (arith, lt, length-map singles (λ (s : SingleSector). s.at)))
    (place_is singles i d (omega (arith, before, lt)) ∙ same ∙ sym (place_is singles j d lt))

-- the progress of the writes: the first `done` single sectors are written
pub record Progress (first current : DiskFacts) (singles : List SingleSector) (done : ℕ) : Type 0 where
  pub calls : CallsSoFar done first current
  pub leaves : IsTrue first.honest → LeavesOnly first current (IsMixtureBut (Contains (single_places singles)) first)
  pub others : IsTrue first.honest → SameBut (Contains (single_places singles)) first.now current.now
  pub holds : IsTrue first.honest → (i : ℕ) → i < done → sector current.now (get_or singles i no_single).at ≡ (get_or singles i no_single).content

module _ {first old new : DiskFacts} {singles : List SingleSector} {done : ℕ} {T E : Type 0} {result : Result T E}
    (so_far : Progress first old singles done) (lt : done < length singles) (call : IsCall old new result) where
  -- the single sector that is written
  abbrev this : SingleSector
  this = get_or singles done no_single

  -- one more write changes only the single sectors
  pub single_leaves : IsTrue first.honest → HoldsNow old → IsWrite old new this.at this.content result → LeavesOnly first new (IsMixtureBut (Contains (single_places singles)) first)
  single_leaves honest holds write = write_leaves call (Contains (single_places singles)) (place_among singles done no_single lt) holds write (so_far.leaves honest)

  pub single_others : IsTrue first.honest → new.now ≡ set old.now this.at this.content → SameBut (Contains (single_places singles)) first.now new.now
  single_others honest is = write_others (Contains (single_places singles)) this.at this.content (place_among singles done no_single lt) (so_far.others honest) is

  -- the written sector holds its content, and those before it still hold theirs
  pub single_holds : AreDistinct (single_places singles) → this.at < old.sectors → IsTrue first.honest → HoldsNow old → new.now ≡ set old.now this.at this.content
      → (i : ℕ) → i < done + 1 → sector new.now (get_or singles i no_single).at ≡ (get_or singles i no_single).content
  single_holds once in_old honest holds is i le = ⊎_elim earlier last (cases_lt i done)
    where
      earlier : i < done → sector new.now (get_or singles i no_single).at ≡ (get_or singles i no_single).content
      earlier before =
          ap (λ l. sector l (get_or singles i no_single).at) is
          ∙ get_or-set_other old.now this.at (get_or singles i no_single).at this.content [] (places_differ singles i done no_single once before lt)
          ∙ so_far.holds honest i before

      last : done ≤ i → sector new.now (get_or singles i no_single).at ≡ (get_or singles i no_single).content
      last later =
          let same : done ≡ i = omega (arith, le, later) in
          subst (λ k. sector new.now (get_or singles k no_single).at ≡ (get_or singles k no_single).content) same
          (ap (λ l. sector l this.at) is ∙ get_or-set_same old.now this.at this.content [] (omega (arith, in_old, holds.size)))

-- the first single sector holds its content
pub first_held : (m : List Sector) (single : SingleSector) (others : List SingleSector) → HoldsSingles m (single ∷ others) → sector m single.at ≡ single.content
first_held m single others held = All-get_or (λ (s : SingleSector). sector m s.at ≡ s.content) (single ∷ others) 0 no_single (omega arith) held
