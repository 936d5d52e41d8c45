-- Settling a draft: the sectors of the current entries that the draft doesn't have are freed, one entry after the
-- other, unless somebody holds them.
use Rattle.std.proofs.Common.{◌≡◌, ◌≢◌, ◌⊎◌, inl, inr, ⊎_elim, ℕ, zero, suc, ◌+◌, ◌<◌, ◌≤◌, ◌==◌, Bool, true, false, if◌then◌else◌, List, [], ◌∷◌, ◌++◌, length, get_or, All, refl, sym, ap, subst, ◌∙◌, arith}
use Rattle.std.specs.Prelude.{Contains}
use Rattle.std.specs.List.{flat_map}
use Rattle.std.proofs.lemmas.Bool.{cases_Bool, cases_lt, eq-eqb, eqb-true, false≢true}
use Rattle.std.proofs.lemmas.List.{append-nil, get_or_default, length-append}
use Rattle.std.proofs.lemmas.List.Elements.{Contains-append_cases, Contains-append_left, Contains-append_right}
use Rattle.std.proofs.lemmas.List.Folds.{Any-from_list_any, list_any_at}
use Rattle.std.proofs.lemmas.List.Sums.{get_or-le-sum_by}
use Rattle.extents.specs.Extent.{AreDistinct}
use Rattle.extents.specs.Used.{ClaimsJust}
use Rattle.roots.specs.declared.root.Root.{Root}
use Rattle.store.specs.declared.placed_entry.PlacedEntry.{PlacedEntry}
use Rattle.store.specs.declared.holds.HeldRow.{HeldRow}
use Rattle.store.specs.Draft.{lists}
use Rattle.store.specs.Holds.{lone_sectors, own_sectors}
use Rattle.store.specs.Stands.{catalogues_of, entry_sectors, sectors_of, used}
use Rattle.store.specs.inside.Claimed.{IsUsable}
use Rattle.store.specs.inside.Draft.{IsOneOrApart, own_in, own_sectors_in}
use Rattle.store.specs.inside.HeldRows.{AreHeldRows, IsAtPlace, IsHeldRow, IsLeft, IsUnheld}
use Rattle.store.specs.inside.Room.{AreClaimedOnce, IsGivenUp, IsReleased}
use Rattle.store.specs.inside.Unlisted.{CanReleaseUnlisted, ReleasesUnlisted, KeepsRows}
use Rattle.store.proofs.Anew.{claims_as, distinct_as}
use Rattle.store.proofs.Claiming.{all-part}
use Rattle.store.proofs.Counts.{occurs, occurs-append, occurs-flat_map, contains_occurs, occurs_contains, distinct_occurs, occurs_distinct}
use Rattle.store.proofs.DraftCounts.{first_apart, rest_once, same_at}
use Rattle.store.proofs.Drafts.{own_listed, own_places, own_unlisted}
use Rattle.store.proofs.HeldRows.{by_left, by_left_back, held_left, held_unheld, holders_left, left_length, left_occurs, row_of}
use Rattle.store.proofs.KeyedRows.{no_row}
use Rattle.store.proofs.Releases.{released_rest, released_some}

-- those sectors of `entries` that the list `others` doesn't use are some of the sectors of `entries`
own_within : (k : ℕ) (others entries : List PlacedEntry) → occurs k (own_sectors_in others entries) ≤ occurs k (flat_map sectors_of entries)
own_within k others [] = omega arith
own_within k others (e ∷ entries) =
    let rest = own_within k others entries in
    let all = occurs-append k (sectors_of e) (flat_map sectors_of entries) in
    let own = occurs-append k (own_in others e) (own_sectors_in others entries) in
    ⊎_elim
    (λ is. omega (arith, rest, all, own, ap (occurs k) (own_listed others e is)))
    (λ isnt. omega (arith, rest, all, own, ap (occurs k) (own_unlisted others e isnt)))
    (cases_Bool (lists others e))

-- if the sectors of a list's entries are distinct, two entries in the same sector are the same entry
one_place : (entries : List PlacedEntry) → AreDistinct (entry_sectors entries) → (i j : ℕ) (d : PlacedEntry) → i < length entries → j < length entries
    → (get_or entries i d).at ≡ (get_or entries j d).at → i ≡ j
one_place entries once i j d lt lt' same = ⊎_elim
    (λ less. absurd (same_at entries once i j d less lt' same))
    (λ from. ⊎_elim (λ more. absurd (same_at entries once j i d more lt (sym same))) (λ upto. omega (arith, from, upto)) (cases_lt j i))
    (cases_lt i j)

-- If a draft has an entry in the sector of a current entry, it has this current entry.
pub drafted_has : (standing drafted : List PlacedEntry) → AreDistinct (entry_sectors standing) → All (IsOneOrApart standing) drafted → (i : ℕ) (d : PlacedEntry)
    → i < length standing → IsOneOrApart drafted (get_or standing i d)
drafted_has standing drafted once each i d lt listed =
    let e = get_or standing i d in
    let at = λ (p : PlacedEntry). p.at in
    let found = Any-from_list_any (λ (other : PlacedEntry). other.at == e.at) drafted listed in
    let p = found.1 in
    let its : p.at ≡ e.at = eqb-true p.at e.at found.4 in
    let one = subst (IsOneOrApart standing) found.3 (each found.0 p found.2) in
    let there = one (list_any_at (λ (other : PlacedEntry). other.at == p.at) standing i d lt (eq-eqb e.at p.at (sym its))) in
    let is : get_or standing there.0 d ≡ p = get_or_default standing there.0 d p there.1 ∙ there.2 in
    let place : there.0 ≡ i = one_place standing once there.0 i d there.1 lt (ap at is ∙ its) in
    let same : p ≡ e = sym is ∙ ap (λ n. get_or standing n d) place in
    subst (Contains drafted) same (found.0, found.2, found.3)

-- an entry of a list is the first one, or one of the others
first_or : (e : PlacedEntry) (rest : List PlacedEntry) (p : PlacedEntry) → Contains (e ∷ rest) p → (e ≡ p) ⊎ Contains rest p
first_or e rest p found = place found.0 found.1 found.2
  where
    place : (n : ℕ) → n < length (e ∷ rest) → get_or (e ∷ rest) n p ≡ p → (e ≡ p) ⊎ Contains rest p
    place zero lt is = inl is
    place (suc n) lt is = inr (n, omega (arith, lt), is)

-- A row stays sound without the entry `e`, if `e` isn't the held entry or the draft has it.
moves_on : (drafted : List PlacedEntry) (e : PlacedEntry) (rest : List PlacedEntry) (hold : HeldRow) → IsHeldRow (drafted ++ e ∷ rest) hold
    → (e ≡ hold.placed → Contains (drafted ++ rest) hold.placed) → IsHeldRow (drafted ++ rest) hold
moves_on drafted e rest hold row first = record {
  fits = row.fits;
  some = row.some;
  listed = λ is. ⊎_elim
      (λ among. Contains-append_left drafted rest hold.placed among)
      (λ behind. ⊎_elim first (λ others. Contains-append_right drafted rest hold.placed others) (first_or e rest hold.placed behind))
      (Contains-append_cases drafted (e ∷ rest) hold.placed (row.listed is));
}

-- if two changes each keep the rows, both together keep them
keeps_on : {a b c : List HeldRow} → KeepsRows a b → KeepsRows b c → KeepsRows a c
keeps_on first second = record {
  holders = λ k. second.holders k ∙ first.holders k;
  holds = λ k p. (λ by. (second.holds k p).0 ((first.holds k p).0 by), λ by. (first.holds k p).1 ((second.holds k p).1 by));
  none = λ is. second.none (first.none is);
}

rows_same : (held : List HeldRow) → KeepsRows held held
rows_same held = record { holders = λ k. refl; holds = λ k p. (λ by. by, λ by. by); none = λ is. is }

rows_left : {old new : List HeldRow} {at : ℕ} → IsLeft old new at → KeepsRows old new
rows_left left = record {
  holders = holders_left left;
  holds = λ k p. (λ by. by_left left by, λ by. by_left_back left by);
  none = λ none. absurd (omega (arith, left.at.inside, ap length none));
}

-- if the state doesn't list a held byte string, the sector of its entry is among those that only holders use
lone_row : {held : List HeldRow} {at place : ℕ} {hold : HeldRow} → IsAtPlace held at place hold → hold.listed ≡ false → 1 ≤ occurs at (lone_sectors held)
lone_row {held = held} {at = at} {place = place} {hold = hold} row isnt =
    let its : occurs at (own_sectors (get_or held place no_row)) ≡ occurs at (sectors_of hold.placed) =
    ap (λ h. occurs at (own_sectors h)) (row.is no_row) ∙ ap (λ b. occurs at (if b then [] else sectors_of hold.placed)) isnt in
    omega (
      arith,
      its,
      contains_occurs at (sectors_of hold.placed) (0, omega arith, row.its),
      occurs-flat_map at own_sectors held,
      get_or-le-sum_by (λ (h : HeldRow). occurs at (own_sectors h)) held place no_row row.inside,
    )

-- giving back sectors and then others gives back all of them
released_then : (old mid new : List Bool) (some more : List ℕ) → IsReleased old mid some → IsReleased mid new more → IsReleased old new (some ++ more)
released_then old mid new some more first second = released_rest old mid new (some ++ more) more (released_some old some more mid first) second

-- After some of the sectors that can be given back are given back, others of them can still be given back.
held_parts : (old mid : List Bool) (gone freed stay rest : List ℕ) → ((k : ℕ) → occurs k gone ≡ occurs k freed + occurs k stay + occurs k rest)
    → AreClaimedOnce old gone → IsReleased old mid freed → AreClaimedOnce mid rest
held_parts old mid gone freed stay rest parts (kept, just, once, usable) released =
    let left = (kept ++ stay) ++ rest in
    let apart = distinct_as (kept ++ gone) (left ++ freed) counts once in (
      kept ++ stay,
      released.each left (claims_as old (kept ++ gone) (left ++ freed) counts just) apart,
      occurs_distinct left (λ k. omega (arith, occurs-append k left freed, distinct_occurs k (left ++ freed) apart)),
      subst (λ n. All (IsUsable n) rest) (sym released.size)
          (all-part (IsUsable (length old)) rest gone (λ s found. occurs_contains s gone (omega (arith, parts s, contains_occurs s rest found))) usable),
    )
  where
    counts : (k : ℕ) → occurs k (kept ++ gone) ≡ occurs k (((kept ++ stay) ++ rest) ++ freed)
    counts k = omega (
      arith,
      parts k,
      occurs-append k kept gone,
      occurs-append k kept stay,
      occurs-append k (kept ++ stay) rest,
      occurs-append k ((kept ++ stay) ++ rest) freed,
    )

-- Some entries are settled, and the entries `rest` are still to be settled.
pub record IsSettledTo (standing drafted : List PlacedEntry) (held mid : List HeldRow) (old now : List Bool) (rest : List PlacedEntry) : Type 0 where
  pub freed : List ℕ
  pub stay : List ℕ
  pub parts : (k : ℕ) → occurs k freed + occurs k stay + occurs k (own_sectors_in drafted rest) ≡ occurs k (own_sectors_in drafted standing)
  pub size : length stay + length (own_sectors_in drafted rest) ≤ length (own_sectors_in drafted standing)
  pub lone : (k : ℕ) → occurs k (lone_sectors mid) ≡ occurs k (lone_sectors held) + occurs k stay
  pub more : length (lone_sectors mid) ≡ length (lone_sectors held) + length stay
  pub released : IsReleased old now freed
  pub rows : AreHeldRows (drafted ++ rest) mid
  pub keeps : KeepsRows held mid
  pub once : AreDistinct (entry_sectors rest)

module _ {root : Root} {standing drafted : List PlacedEntry} {held : List HeldRow} {old : List Bool} (can : CanReleaseUnlisted root standing drafted held old) where
  pub standing_once : AreDistinct (entry_sectors standing)
  standing_once = own_places standing (occurs_distinct (flat_map sectors_of standing)
      (λ k. omega (arith, distinct_occurs k (used root standing) can.kept.apart.once, occurs-append k (catalogues_of root) (flat_map sectors_of standing))))

  -- a draft's entry in the sector of a current entry is this current entry
  pub settled_same : (i : ℕ) (d : PlacedEntry) → i < length standing → IsOneOrApart drafted (get_or standing i d)
  settled_same i d lt = drafted_has standing drafted standing_once can.list.each i d lt

  -- no sector is both one that the commit gives up and one that only holders use
  apart : (k : ℕ) → occurs k (own_sectors_in drafted standing) + occurs k (lone_sectors held) ≤ 1
  apart k = omega (
    arith,
    own_within k drafted standing,
    distinct_occurs k (used root standing ++ lone_sectors held) can.kept.claimed.once,
    occurs-append k (used root standing) (lone_sectors held),
    occurs-append k (catalogues_of root) (flat_map sectors_of standing),
  )

  -- at the beginning, no entry is settled
  pub settled_none : IsSettledTo standing drafted held held old old standing
  settled_none = record {
    freed = [];
    stay = [];
    parts = λ k. omega arith;
    size = omega arith;
    lone = λ k. omega arith;
    more = omega arith;
    released = record { size = refl; each = λ kept just once. subst (λ l. ClaimsJust old l) (append-nil kept) just };
    rows = record {
      each = λ k d lt. let row = can.kept.rows.each k d lt in record {
        fits = row.fits;
        some = row.some;
        listed = λ is. Contains-append_right drafted standing _ (row.listed is);
      };
      own = can.kept.rows.own;
    };
    keeps = rows_same held;
    once = standing_once;
  }

  module _ {mid : List HeldRow} {now : List Bool} {e : PlacedEntry} {rest : List PlacedEntry} (to : IsSettledTo standing drafted held mid old now (e ∷ rest)) where
    own_first : (k : ℕ) → occurs k (own_sectors_in drafted (e ∷ rest)) ≡ occurs k (own_in drafted e) + occurs k (own_sectors_in drafted rest)
    own_first k = occurs-append k (own_in drafted e) (own_sectors_in drafted rest)

    own_length : length (own_sectors_in drafted (e ∷ rest)) ≡ length (own_in drafted e) + length (own_sectors_in drafted rest)
    own_length = length-append (own_in drafted e) (own_sectors_in drafted rest)

    -- an entry that the draft has is settled without freeing anything
    pub settled_listed : lists drafted e ≡ true → Contains drafted e → IsSettledTo standing drafted held mid old now rest
    settled_listed is has = record {
      freed = to.freed;
      stay = to.stay;
      parts = λ k. omega (arith, to.parts k, own_first k, ap (occurs k) (own_listed drafted e is));
      size = omega (arith, to.size, own_length, ap length (own_listed drafted e is));
      lone = to.lone;
      more = to.more;
      released = to.released;
      rows = record {
        each = λ k d lt. let row = to.rows.each k d lt in
            moves_on drafted e rest (get_or mid k d) row (λ same. subst (Contains (drafted ++ rest)) same (Contains-append_left drafted rest e has));
        own = to.rows.own;
      };
      keeps = to.keeps;
      once = rest_once e rest to.once;
    }

    module _ (isnt : lists drafted e ≡ false) where
      own_is : own_in drafted e ≡ sectors_of e
      own_is = own_unlisted drafted e isnt

      -- The sectors of an entry that the draft doesn't have can be given back.
      pub settled_held : AreClaimedOnce now (sectors_of e ++ [])
      settled_held = held_parts old now (own_sectors_in drafted standing ++ catalogues_of root) to.freed ((to.stay ++ own_sectors_in drafted rest) ++ catalogues_of root) (sectors_of e ++ [])
          (λ k. omega (
            arith,
            to.parts k,
            own_first k,
            ap (occurs k) own_is,
            occurs-append k (own_sectors_in drafted standing) (catalogues_of root),
            occurs-append k to.stay (own_sectors_in drafted rest),
            occurs-append k (to.stay ++ own_sectors_in drafted rest) (catalogues_of root),
            occurs-append k (sectors_of e) [],
          )) can.claimed to.released

      -- The rows of other byte strings are sound without this entry.
      other_rows : (hold : HeldRow) → IsHeldRow (drafted ++ e ∷ rest) hold → hold.placed.at ≢ e.at → IsHeldRow (drafted ++ rest) hold
      other_rows hold row other = moves_on drafted e rest hold row (λ same. absurd (other (ap (λ (p : PlacedEntry). p.at) (sym same))))

      module _ {place : ℕ} {hold : HeldRow} (row : IsAtPlace mid e.at place hold) where
        -- If the entry is held, its row counts as listed.
        row_listed : hold.listed ≡ true
        row_listed = ⊎_elim
            (λ is. is)
            (λ not_listed. absurd (omega (
              arith,
              lone_row row not_listed,
              contains_occurs e.at (sectors_of e) (0, omega arith, refl),
              ap (occurs e.at) own_is,
              own_first e.at,
              to.parts e.at,
              to.lone e.at,
              apart e.at,
            )))
            (cases_Bool hold.listed)

        -- If the entry is held, its row has this entry.
        row_is : hold.placed ≡ e
        row_is = ⊎_elim
            (λ among.
            let its = ap (λ (p : PlacedEntry). p.at) among.2 ∙ row.its in
            absurd (false≢true (sym isnt ∙ list_any_at (λ (other : PlacedEntry). other.at == e.at) drafted among.0 hold.placed among.1 (eq-eqb (get_or drafted among.0 hold.placed).at e.at its))))
            (λ behind. ⊎_elim
            (λ same. sym same)
            (λ others. absurd (first_apart e rest to.once others.0 hold.placed others.1 (sym (ap (λ (p : PlacedEntry). p.at) others.2 ∙ row.its))))
            (first_or e rest hold.placed behind))
            (Contains-append_cases drafted (e ∷ rest) hold.placed ((row_of to.rows row).listed row_listed))

      -- Once the entry's sectors are freed, or left to its holders, the entry is settled.
      pub settled_given : {left : List HeldRow} {new : List Bool} → IsGivenUp mid left now new e [] → IsSettledTo standing drafted held left old new rest
      settled_given {left = left} {new = new} given = ⊎_elim stays goes given
        where
          stays : IsLeft mid left e.at × IsReleased now new [] → IsSettledTo standing drafted held left old new rest
          stays both =
              let is = both.0 in
              let listed = row_listed is.at in
              record {
                freed = to.freed ++ [];
                stay = to.stay ++ sectors_of e;
                parts = λ k. omega (arith, to.parts k, own_first k, ap (occurs k) own_is, occurs-append k to.freed [], occurs-append k to.stay (sectors_of e));
                size = omega (arith, to.size, own_length, ap length own_is, length-append to.stay (sectors_of e));
                lone = λ k. omega (arith, to.lone k, left_occurs is listed k, ap (λ (p : PlacedEntry). occurs k (sectors_of p)) (row_is is.at), occurs-append k to.stay (sectors_of e));
                more = omega (arith, to.more, left_length is listed, ap (λ (p : PlacedEntry). length (sectors_of p)) (row_is is.at), length-append to.stay (sectors_of e));
                released = released_then old now new to.freed [] to.released both.1;
                rows = held_left to.rows is other_rows;
                keeps = keeps_on to.keeps (rows_left is);
                once = rest_once e rest to.once;
              }

          goes : IsUnheld mid e.at × (left ≡ mid) × IsReleased now new (sectors_of e ++ []) → IsSettledTo standing drafted held left old new rest
          goes all = subst (λ l. IsSettledTo standing drafted held l old new rest) (sym all.1) (record {
            freed = to.freed ++ (sectors_of e ++ []);
            stay = to.stay;
            parts = λ k. omega (arith, to.parts k, own_first k, ap (occurs k) own_is, occurs-append k to.freed (sectors_of e ++ []), occurs-append k (sectors_of e) []);
            size = omega (arith, to.size, own_length);
            lone = to.lone;
            more = to.more;
            released = released_then old now new to.freed (sectors_of e ++ []) to.released all.2;
            rows = held_unheld to.rows all.0 other_rows;
            keeps = to.keeps;
            once = rest_once e rest to.once;
          })

  module _ {mid : List HeldRow} {now : List Bool} (to : IsSettledTo standing drafted held mid old now []) where
    -- Once all entries are settled, the catalogues can be given back.
    pub settled_catalogues : AreClaimedOnce now (catalogues_of root)
    settled_catalogues = held_parts old now (own_sectors_in drafted standing ++ catalogues_of root) to.freed to.stay (catalogues_of root)
        (λ k. omega (arith, to.parts k, occurs-append k (own_sectors_in drafted standing) (catalogues_of root))) can.claimed to.released

    -- Once the catalogues are given back, everything is settled.
    pub settled_all : {new : List Bool} → IsReleased now new (catalogues_of root) → ReleasesUnlisted root standing drafted held mid old new
    settled_all {new = new} released = record {
      freed = to.freed;
      parts = λ k. omega (arith, to.parts k, to.lone k);
      few = omega (arith, to.size, to.more);
      released = released_then old now new to.freed (catalogues_of root) to.released released;
      rows = subst (λ l. AreHeldRows l mid) (append-nil drafted) to.rows;
      keeps = to.keeps;
    }
