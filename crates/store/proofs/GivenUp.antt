-- What is kept once the state no longer uses an entry: its sectors are free, unless somebody holds it.
use Rattle.std.proofs.Common.{◌≡◌, ◌≢◌, ⊎_elim, ◌↔◌, ℕ, zero, suc, ◌+◌, ◌<◌, ◌≤◌, Bool, true, List, [], ◌∷◌, ◌++◌, length, get_or, set, All, IsTrue, refl, sym, ap, subst, ◌∙◌, arith}
use Rattle.std.specs.Prelude.{Contains, if◌then◌else◌}
use Rattle.std.specs.List.{flat_map, remove}
use Rattle.std.proofs.lemmas.Bool.{cases_Bool}
use Rattle.std.proofs.lemmas.List.{get_or_default, get_or-set_other, length-set}
use Rattle.std.proofs.lemmas.List.Edits.{length-remove}
use Rattle.std.proofs.lemmas.List.Elements.{Contains-append_left}
use Rattle.std.proofs.lemmas.List.Sums.{get_or-le-sum_by}
use Rattle.sector_disk.specs.Disk.{Sector, DiskFacts, Mixture, IsMixtureBut}
use Rattle.extents.specs.Extent.{AreDistinct}
use Rattle.roots.specs.declared.root.Root.{Root}
use Rattle.store.specs.declared.placed_entry.PlacedEntry.{PlacedEntry}
use Rattle.store.specs.declared.holds.HeldRow.{HeldRow}
use Rattle.store.specs.Holds.{lone_sectors, own_sectors, KeepsHolders}
use Rattle.store.specs.Stands.{catalogues_of, sectors_of, used}
use Rattle.store.specs.inside.Claimed.{IsClaimedBeside}
use Rattle.store.specs.inside.HeldRows.{IsAtPlace, IsHeldRow, IsLeft, AreHeldRows}
use Rattle.store.specs.inside.Kept.{AreClaimed, IsKept}
use Rattle.store.specs.inside.NameIndex.{closed_up}
use Rattle.store.specs.inside.Room.{IsGivenUp, IsRootOr}
use Rattle.store.proofs.Anew.{IsMoved, left_claimed, moved_claimed, moved_size, more_free}
use Rattle.passes.proofs.Parts.{distinct-parts}
use Rattle.store.proofs.Counts.{occurs, occurs-append, occurs-flat_map, contains_occurs, occurs_contains, distinct_occurs, occurs_distinct}
use Rattle.store.proofs.KeepsHolders.{keeps_left, keeps_table, listed_used}
use Rattle.store.proofs.KeyedRows.{no_row}
use Rattle.store.proofs.HeldRows.{held_left, held_unheld, left_length, left_occurs}
use Rattle.store.proofs.Removed.{at_closed, closed_inside}
use Rattle.store.proofs.UsedAlone.{among_entries, no_entry, own_used}

-- if the sectors of `e` and of the entries are distinct, no entry is in the sector of `e`
twice : (e : PlacedEntry) (entries : List PlacedEntry) → AreDistinct (sectors_of e ++ flat_map sectors_of entries) → (j : ℕ) (d : PlacedEntry) → j < length entries → e.at ≡ (get_or entries j d).at → ⊥
twice e entries once j d lt same =
    let first = contains_occurs e.at (sectors_of e) (0, omega arith, refl) in
    let there = contains_occurs e.at (flat_map sectors_of entries) (among_entries entries j d lt e.at (0, omega arith, sym same)) in
    omega (arith, first, there, occurs-append e.at (sectors_of e) (flat_map sectors_of entries), distinct_occurs e.at (sectors_of e ++ flat_map sectors_of entries) once)

-- if the sectors of entries are distinct, two entries in the same sector are the same entry
pub same_place : (entries : List PlacedEntry) → AreDistinct (flat_map sectors_of entries) → (i j : ℕ) (d : PlacedEntry) → i < length entries
    → j < length entries → (get_or entries i d).at ≡ (get_or entries j d).at → i ≡ j
same_place [] once i j d lt lt' same = absurd (omega (arith, lt))
same_place (e ∷ entries) once zero zero d lt lt' same = refl
same_place (e ∷ entries) once zero (suc j) d lt lt' same = absurd (twice e entries once j d (omega (arith, lt')) same)
same_place (e ∷ entries) once (suc i) zero d lt lt' same = absurd (twice e entries once i d (omega (arith, lt)) (sym same))
same_place (e ∷ entries) once (suc i) (suc j) d lt lt' same =
    let rest : AreDistinct (flat_map sectors_of entries) =
    occurs_distinct (flat_map sectors_of entries)
    (λ k. omega (
      arith,
      distinct_occurs k (sectors_of e ++ flat_map sectors_of entries) once,
      occurs-append k (sectors_of e)
          (flat_map sectors_of entries),
    )) in
    ap suc (same_place entries rest i j d (omega (arith, lt)) (omega (arith, lt')) same)

module _ {root : Root} {entries : List PlacedEntry} {held : List HeldRow} {layout : List Bool} (kept : IsKept root entries held layout) where
  -- the sectors of the entries are distinct
  entries_once : AreDistinct (flat_map sectors_of entries)
  entries_once = occurs_distinct (flat_map sectors_of entries)
      (λ k. omega (arith, distinct_occurs k (used root entries) kept.apart.once, occurs-append k (catalogues_of root) (flat_map sectors_of entries)))

  -- A held byte string whose sector the state uses counts as listed.
  pub row_listed : {at place : ℕ} {hold : HeldRow} → IsAtPlace held at place hold → Contains (used root entries) at → hold.listed ≡ true
  row_listed {at = at} {place = place} {hold = hold} row found = ⊎_elim
      (λ is. is)
      (λ isnt.
      let its : occurs at (own_sectors (get_or held place no_row)) ≡ occurs at (sectors_of hold.placed) =
      ap (λ h. occurs at (own_sectors h)) (row.is no_row) ∙ ap (λ b. occurs at (if b then [] else sectors_of hold.placed)) isnt in
      let lone : Contains (lone_sectors held) at = occurs_contains at (lone_sectors held) (omega (
        arith,
        its,
        contains_occurs at (sectors_of hold.placed) (0, omega arith, row.its),
        occurs-flat_map at own_sectors held,
        get_or-le-sum_by (λ (h : HeldRow). occurs at (own_sectors h)) held place no_row row.inside,
      )) in
      absurd (distinct-parts (used root entries) (lone_sectors held) at kept.claimed.once found lone))
      (cases_Bool hold.listed)

  -- Each held byte string counts as listed exactly if it is one of the state's.
  pub flags : All (λ hold. (hold.listed ≡ true) ↔ Contains entries hold.placed) held
  flags i d lt =
      let row = get_or held i d in (
        (kept.rows.each i d lt).listed,
        λ found. row_listed (record { inside = lt; is = λ e. get_or_default held i e d lt; its = refl }) (listed_used root entries row.placed found row.placed.at (0, omega arith, refl)),
      )

  module _ (gone : ℕ) (lt : gone < length entries) where
    abbrev old : PlacedEntry
    old = get_or entries gone no_entry

    -- The row of the entry's sector is the entry's row.
    pub row_is : {place : ℕ} {hold : HeldRow} → IsAtPlace held old.at place hold → hold.placed ≡ old
    row_is {place = place} {hold = hold} row =
        let listed = row_listed row (own_used root entries gone no_entry lt) in
        let rows = subst (IsHeldRow entries) (row.is no_row) (kept.rows.each place no_row row.inside) in
        let among = rows.listed listed in
        let there : get_or entries among.0 no_entry ≡ hold.placed = get_or_default entries among.0 no_entry hold.placed among.1 ∙ among.2 in
        let here : among.0 ≡ gone = same_place entries entries_once among.0 gone no_entry among.1 lt (ap (λ (p : PlacedEntry). p.at) there ∙ row.its) in
        sym there ∙ ap (λ i. get_or entries i no_entry) here

    -- If the entry is held, only its holders use its sectors from then on.
    module _ {left : List HeldRow} (is : IsLeft held left old.at) where
      lone_parts : (k : ℕ) → occurs k (lone_sectors left) + occurs k [] ≡ occurs k (lone_sectors held) + occurs k (sectors_of old)
      lone_parts k = omega (
        arith,
        left_occurs is (row_listed is.at (own_used root entries gone no_entry lt)) k,
        ap (λ (p : PlacedEntry). occurs k (sectors_of p)) (row_is is.at),
      )

      lone_count : length (lone_sectors left) ≡ length (lone_sectors held) + length (sectors_of old)
      lone_count = left_length is (row_listed is.at (own_used root entries gone no_entry lt)) ∙ ap (λ (p : PlacedEntry). length (lone_sectors held) + length (sectors_of p)) (row_is is.at)

    module _ {mid new : List Bool} {left : List HeldRow} {catalogues : List ℕ} (given : IsGivenUp held left mid new old catalogues) where
      pub given_rows : (others : List PlacedEntry) → ((hold : HeldRow) → IsHeldRow entries hold → hold.placed.at ≢ old.at → IsHeldRow others hold) → AreHeldRows others left
      given_rows others moves = ⊎_elim
          (λ both. held_left kept.rows both.0 moves)
          (λ all. subst (AreHeldRows others) (sym all.1) (held_unheld kept.rows all.0 moves))
          given

      pub given_few : length (lone_sectors left) ≤ length (lone_sectors held) + length (sectors_of old)
      given_few = ⊎_elim
          (λ both. omega (arith, lone_count both.0))
          (λ all. omega (arith, ap (λ l. length (lone_sectors l)) all.1))
          given

      module _ {more : List ℕ} (claimed : IsClaimedBeside layout mid more) where
        pub given_size : length new ≡ root.sectors
        given_size = ⊎_elim (λ both. moved_size kept claimed new both.1) (λ all. moved_size kept claimed new all.2) given

        pub given_claimed : (next : Root) (others : List PlacedEntry)
            → IsMoved (used root entries) more (used next others) (sectors_of old ++ catalogues)
            → AreClaimed root.sectors new (used next others) (lone_sectors left)
        given_claimed next others moved = ⊎_elim
            (λ both. left_claimed kept claimed next others moved (lone_sectors left) [] (sectors_of old) catalogues refl (lone_parts both.0) new both.1)
            (λ all. subst (λ l. AreClaimed root.sectors new (used next others) (lone_sectors l)) (sym all.1) (moved_claimed kept claimed next others moved new all.2))
            given

        pub given_keeps : {before after : DiskFacts} → (IsTrue before.honest → (m : List Sector) → Mixture after m → IsMixtureBut (IsRootOr more) before m) → KeepsHolders before after held left
        given_keeps {before = before} {after = after} others = ⊎_elim
            (λ both. keeps_left kept more (more_free kept claimed) others both.0)
            (λ all. subst (KeepsHolders before after held) (sym all.1) (keeps_table kept more (more_free kept claimed) others))
            given

-- A row that isn't the replaced or removed entry's is sound for the entries of the next state too.
module _ (entries : List PlacedEntry) (place : ℕ) (lt : place < length entries) where
  elsewhere : (placed : PlacedEntry) (found : Contains entries placed) → placed.at ≢ (get_or entries place no_entry).at → found.0 ≢ place
  elsewhere placed found other same = other (ap (λ (p : PlacedEntry). p.at) (sym found.2 ∙ ap (λ i. get_or entries i placed) same ∙ get_or_default entries place placed no_entry lt))

  pub still_removed : (hold : HeldRow) → IsHeldRow entries hold → hold.placed.at ≢ (get_or entries place no_entry).at → IsHeldRow (remove entries place) hold
  still_removed hold row other = record {
    fits = row.fits;
    some = row.some;
    listed = λ is.
        let found = row.listed is in
        let apart = elsewhere hold.placed found other in
        let fewer = length-remove entries place lt in (
          closed_up place found.0,
          closed_inside place (length (remove entries place)) found.0 apart (omega (arith, found.1, fewer)) (omega (arith, lt, fewer)),
          at_closed entries place found.0 hold.placed apart lt ∙ found.2,
        );
  }

  pub still_set : (put : PlacedEntry) → (hold : HeldRow) → IsHeldRow entries hold → hold.placed.at ≢ (get_or entries place no_entry).at → IsHeldRow (set entries place put) hold
  still_set put hold row other = record {
    fits = row.fits;
    some = row.some;
    listed = λ is.
        let found = row.listed is in (
          found.0,
          omega (arith, found.1, length-set entries place put),
          get_or-set_other entries place found.0 put hold.placed (elsewhere hold.placed found other) ∙ found.2,
        );
  }

-- If the rows are sound, they are still sound after one more entry is put after the others.
pub rows_more : {entries : List PlacedEntry} {held : List HeldRow} (put : PlacedEntry) → AreHeldRows entries held → AreHeldRows (entries ++ put ∷ []) held
rows_more {entries = entries} put rows = record {
  each = λ k d lt. let row = rows.each k d lt in record {
    fits = row.fits;
    some = row.some;
    listed = λ is. Contains-append_left entries (put ∷ []) _ (row.listed is);
  };
  own = rows.own;
}
