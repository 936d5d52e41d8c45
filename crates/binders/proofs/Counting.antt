-- The sectors that aren't free because of binders are those of each byte string that only binders hold,
-- counted once.
use Rattle.std.proofs.Common.{◌≡◌, ◌≢◌, ℕ, ◌+◌, ◌<◌, List, [], ◌∷◌, length, get_or, if◌then◌else◌, Bool, true, false, refl, ap, suc, sym, subst, ◌∙◌, arith}
use Rattle.std.specs.Prelude.{All, AllPairs, Contains, sum_by}
use Rattle.std.proofs.lemmas.List.{get_or_default, length-append}
use Rattle.std.proofs.lemmas.List.Elements.{All-contains, All-cons, All-head, All-nil, All-tail}
use Rattle.std.proofs.lemmas.List.Kept.{AllPairs-cons}
use Rattle.std.proofs.lemmas.List.Sums.{sum_by-cons}
use Rattle.scope.proofs.LoadOrderLemmas.{contains-here, contains-later}
use Rattle.store.specs.Holds.{HaveOwnRows, IsHeldBy, lone_sectors, AreHolds}
use Rattle.store.specs.Stands.{sectors_of}
use Rattle.store.specs.declared.holds.HeldRow.{HeldRow}
use Rattle.store.specs.declared.placed_entry.PlacedEntry.{PlacedEntry}
use Rattle.binders.specs.Counted.{CountsOnce, IsLone}
use Rattle.binders.specs.Slotted.{HoldAlone, Slotted}

-- the entry of a row and then the entries `later`, if the state doesn't list the entry; otherwise only
-- `later`
abbrev add : Bool → PlacedEntry → List PlacedEntry → List PlacedEntry
add true placed later = later
add false placed later = placed ∷ later

-- the entries that are held and that the state no longer lists, in the order of the rows
abbrev lone_holds : List HeldRow → List PlacedEntry
lone_holds [] = []
lone_holds (row ∷ rows) = add row.listed row.placed (lone_holds rows)

-- the number of sectors of an entry and its byte string
abbrev size : PlacedEntry → ℕ
size placed = length (sectors_of placed)

add_size : (listed : Bool) (placed : PlacedEntry) (later : List PlacedEntry)
    → length (if listed then [] else sectors_of placed) + sum_by size later ≡ sum_by size (add listed placed later)
add_size true placed later = omega arith
add_size false placed later = sym (sum_by-cons size placed later)

lone_size : (held : List HeldRow) → length (lone_sectors held) ≡ sum_by size (lone_holds held)
lone_size [] = refl
lone_size (row ∷ rows) =
    length-append (if row.listed then [] else sectors_of row.placed) (lone_sectors rows)
    ∙ ap (λ n. length (if row.listed then [] else sectors_of row.placed) + n) (lone_size rows)
    ∙ add_size row.listed row.placed (lone_holds rows)

-- a property of the added entry and of all later ones is a property of all
add_all : (P : PlacedEntry → Type 0) (listed : Bool) (placed : PlacedEntry) (later : List PlacedEntry) → (listed ≡ false → P placed) → All P later → All P (add listed placed later)
add_all P true placed later here there = there
add_all P false placed later here there = All-cons P placed later (here refl) there

lone_all : (P : PlacedEntry → Type 0) (held : List HeldRow) → All (λ row. row.listed ≡ false → P row.placed) held → All P (lone_holds held)
lone_all P [] all = All-nil P
lone_all P (row ∷ rows) all =
    let Q : HeldRow → Type 0 = λ h. h.listed ≡ false → P h.placed in
    add_all P row.listed row.placed (lone_holds rows) (All-head Q row rows all) (lone_all P rows (All-tail Q row rows all))

-- each of the later entries is in the list to which an entry may be added
later_in : (listed : Bool) (placed q : PlacedEntry) (later : List PlacedEntry) → Contains later q → Contains (add listed placed later) q
later_in true placed q later there = there
later_in false placed q later there = contains-later q placed later there

first_in : (listed : Bool) (placed : PlacedEntry) (later : List PlacedEntry) → listed ≡ false → Contains (add listed placed later) placed
first_in true placed later e = absurd cc
first_in false placed later e = contains-here placed later

lone_each : (held : List HeldRow) → All (λ row. row.listed ≡ false → Contains (lone_holds held) row.placed) held
lone_each [] = All-nil (λ row. row.listed ≡ false → Contains (lone_holds []) row.placed)
lone_each (row ∷ rows) =
    let Within : HeldRow → Type 0 = λ h. h.listed ≡ false → Contains (lone_holds (row ∷ rows)) h.placed in
    let later : All Within rows = λ k d lt unlisted. later_in row.listed row.placed (get_or rows k d).placed (lone_holds rows) (lone_each rows k d lt unlisted) in
    All-cons Within row rows (first_in row.listed row.placed (lone_holds rows)) later

-- no two of the entries are at the same sector
abbrev Apart : PlacedEntry → PlacedEntry → Type 0
Apart a b = a.at ≢ b.at

once_more : (listed : Bool) (placed : PlacedEntry) (later : List PlacedEntry) → All (Apart placed) later → AllPairs Apart later → AllPairs Apart (add listed placed later)
once_more true placed later others rest = rest
once_more false placed later others rest = AllPairs-cons Apart placed later others rest

lone_once : (held : List HeldRow) → HaveOwnRows held → AllPairs Apart (lone_holds held)
lone_once [] own = λ i j d before inside. absurd (omega (arith, inside))
lone_once (row ∷ rows) own =
    once_more row.listed row.placed (lone_holds rows)
    (lone_all (Apart row.placed) rows (λ k d lt unlisted. own 0 (suc k) d (omega arith) (omega (arith, lt))))
    (lone_once rows (λ i j d before inside. own (suc i) (suc j) d (omega (arith, before)) (omega (arith, inside))))

untrue : (b : Bool) → (b ≡ true → ⊥) → b ≡ false
untrue true never = absurd (never refl)
untrue false never = refl

not_both : (b : Bool) → b ≡ true → b ≡ false → ⊥
not_both true e f = absurd cc
not_both false e f = absurd cc

-- If only binders hold byte strings, the sectors that only they keep are counted once for each byte
-- string.
pub counts_once : {D : Type 0} (binders : Slotted D) → AreHolds binders.registry → HoldAlone binders → CountsOnce binders
counts_once {D} binders are alone = record {
  holds = lone_holds held;
  once = lone_once held are.rows;
  lone = λ placed. (
    (λ there. All-contains (IsLone binders) (lone_holds held) placed (lone_all (IsLone binders) held each) there),
    (λ is. among placed is),
  );
  sectors = lone_size held;
}
  where
    held : List HeldRow
    held = binders.registry.held

    by : (k : ℕ) (d : HeldRow) → k < length held → IsHeldBy held (get_or held k d).placed.at (get_or held k d).placed
    by k d lt = record { place = k; inside = lt; is = λ e. ap (λ (h : HeldRow). h.placed) (get_or_default held k e d lt); its = refl }

    each : All (λ row. row.listed ≡ false → IsLone binders row.placed) held
    each k d lt unlisted =
        let placed : PlacedEntry = (get_or held k d).placed in
        record {
          held = omega (arith, are.holders placed.at placed (by k d lt), alone placed.at);
          hold = by k d lt;
          unlisted = λ there. not_both (get_or held k d).listed ((are.flags k d lt).1 there) unlisted;
        }

    among : (placed : PlacedEntry) → IsLone binders placed → Contains (lone_holds held) placed
    among placed is =
        let k : ℕ = is.hold.place in
        let d : HeldRow = record { placed = placed; holders = 0; listed = false } in
        let same : ◌≡◌ {A = PlacedEntry} (get_or held k d).placed placed = is.hold.is d in
        let unlisted : (get_or held k d).listed ≡ false = untrue (get_or held k d).listed
        (λ listed. is.unlisted (subst (Contains binders.registry.entries) same ((are.flags k d is.hold.inside).0 listed))) in
        subst (Contains (lone_holds held)) same (lone_each held k d is.hold.inside unlisted)
