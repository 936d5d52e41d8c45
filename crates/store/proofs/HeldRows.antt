-- The rows of held byte strings, and the facts that each change of the rows keeps.
use Rattle.std.proofs.Common.{◌≡◌, ◌≢◌, ⊎_elim, ℕ, zero, suc, ◌+◌, ◌<◌, ◌==◌, nat_eq, Bool, true, false, if◌then◌else◌, sum_by, List, []}
use Rattle.std.proofs.Common.{◌∷◌, ◌++◌, length, get_or, set, take, drop, refl, sym, ap, subst, ◌∙◌, arith}
use Rattle.std.specs.Prelude.{Contains}
use Rattle.std.specs.List.{flat_map, remove}
use Rattle.std.proofs.Math.ListN.{get_or-map}
use Rattle.std.proofs.Math.Seq.{map-set_same}
use Rattle.std.proofs.lemmas.Bool.{cases_Bool, cases_lt, eq-eqb, eqb-true, eqb-false, ne_eqb, false≢true}
use Rattle.std.proofs.lemmas.Grind.{flat_map-append, get_or-set_at}
use Rattle.std.proofs.lemmas.List.{get_or-set_other, length-set, take-append-drop}
use Rattle.std.proofs.lemmas.List.Concat.{length-flat_map}
use Rattle.std.proofs.lemmas.List.Edits.{get_or-insert_above, get_or-insert_at, get_or-insert_below, length-insert, length-remove}
use Rattle.std.proofs.lemmas.List.Elements.{All-set}
use Rattle.std.proofs.lemmas.List.Quantifiers.{all_pairs_remove}
use Rattle.std.proofs.lemmas.List.Sums.{get_or-le-sum_by, sum_by-cons, sum_by-insert, sum_by-remove, sum_by-set}
use Rattle.roots.specs.Entry.{EntryHasSpelling}
use Rattle.store.specs.declared.placed_entry.PlacedEntry.{PlacedEntry}
use Rattle.store.specs.declared.holds.HeldRow.{HeldRow}
use Rattle.store.specs.Holds.{HaveOwnRows, own_sectors, lone_sectors, holders_of, IsHeldBy}
use Rattle.store.specs.Stands.{sectors_of}
use Rattle.store.specs.inside.NameIndex.{closed_up}
use Rattle.store.specs.inside.HeldRows.{IsUnheld, IsAtPlace, IsHeldOnce, IsHeldMore, IsLeft, IsHeldLess, IsLetGo, IsHeldRow, AreHeldRows, with_holders, unlisted, first_row}
use Rattle.store.proofs.Counts.{occurs, occurs-flat_map}
use Rattle.store.proofs.Inserted.{all_insert, all_pairs_insert}
use Rattle.store.proofs.KeyedRows.{no_row}
use Rattle.store.proofs.Removed.{all_remove, at_closed, closed_inside, stood_at}

-- if each held byte string has one row, two places with the same sector are the same place
pub same_place : (held : List HeldRow) (i j : ℕ) (d : HeldRow) → HaveOwnRows held → i < length held → j < length held → (get_or held i d).placed.at ≡ (get_or held j d).placed.at → i ≡ j
same_place held i j d own first second same = ⊎_elim
    (λ less. absurd (own i j d less second same))
    (λ from. ⊎_elim
    (λ more. absurd (own j i d more first (sym same)))
    (λ upto. omega (arith, from, upto))
    (cases_lt j i))
    (cases_lt i j)

-- if a row is replaced by one with the same field `f`, the field `f` stays the same in all rows
pub field_set : {A : Type 0} (f : HeldRow → A) (held : List HeldRow) (place : ℕ) (row : HeldRow) → ((d : HeldRow) → f row ≡ f (get_or held place d))
    → (k : ℕ) (d : HeldRow) → f (get_or (set held place row) k d) ≡ f (get_or held k d)
field_set f held place row same k d =
    sym (get_or-map f (set held place row) k d) ∙ ap (λ l. get_or l k (f d)) (map-set_same f held place row d (same d)) ∙ get_or-map f held k d

own_set : (held : List HeldRow) (place : ℕ) (row : HeldRow) → ((d : HeldRow) → row.placed.at ≡ (get_or held place d).placed.at) → HaveOwnRows held → HaveOwnRows (set held place row)
own_set held place row same own i j d less fits = λ equal.
    let sector = λ (h : HeldRow). h.placed.at in
    own i j d less (omega (arith, fits, length-set held place row)) (sym (field_set sector held place row same i d) ∙ equal ∙ field_set sector held place row same j d)

-- The rows of a store.
module _ {entries : List PlacedEntry} {old : List HeldRow} (are : AreHeldRows entries old) where
  -- the row at a place of the table is sound
  pub row_of : {sector place : ℕ} {hold : HeldRow} → IsAtPlace old sector place hold → IsHeldRow entries hold
  row_of {place = place} at = subst (IsHeldRow entries) (at.is no_row) (are.each place no_row at.inside)

  -- if a listed byte string is held for the first time, the rows stay sound
  pub held_once : {new : List HeldRow} → {placed : PlacedEntry} → IsHeldOnce old new placed → EntryHasSpelling placed.entry → Contains entries placed → AreHeldRows entries new
  held_once {placed = placed} once fits listed =
      let row = first_row placed in
      subst (AreHeldRows entries) (sym once.is) (record {
        each = all_insert (IsHeldRow entries) old once.place row (record { fits = fits; some = omega arith; listed = λ _. listed }) are.each;
        own = all_pairs_insert (λ (a b : HeldRow). a.placed.at ≢ b.placed.at) old once.place row once.inside are.own
            (λ k d before. once.absent k d (omega (arith, before, once.inside)))
            (λ k d behind lt same. once.absent k d lt (sym same));
      })

  -- if a row gets another number of holders, which isn't 0, the rows stay sound
  counted : {sector place : ℕ} {hold : HeldRow} (holders : ℕ) → 0 < holders → IsAtPlace old sector place hold → AreHeldRows entries (set old place (with_holders holders hold))
  counted {place = place} {hold = hold} holders some at =
      let was = row_of at in
      let row = with_holders holders hold in record {
        each = All-set (IsHeldRow entries) old place row (record { fits = was.fits; some = some; listed = was.listed }) are.each;
        own = own_set old place row (λ d. ap (λ (h : HeldRow). h.placed.at) (sym (at.is d))) are.own;
      }

  pub held_more : {new : List HeldRow} → {sector : ℕ} → IsHeldMore old new sector → AreHeldRows entries new
  held_more more = subst (AreHeldRows entries) (sym more.is) (counted (more.hold.holders + 1) (omega arith) more.at)

  pub held_less : {new : List HeldRow} → {sector : ℕ} → IsHeldLess old new sector → AreHeldRows entries new
  held_less less = subst (AreHeldRows entries) (sym less.is) (counted less.holders less.some less.at)

  -- if the last holder releases a byte string, the rows stay sound
  pub held_gone : {new : List HeldRow} → {sector : ℕ} {hold : HeldRow} → IsLetGo old new sector hold → AreHeldRows entries new
  held_gone gone = subst (AreHeldRows entries) (sym gone.is) (record {
    each = all_remove (IsHeldRow entries) old gone.place are.each;
    own = all_pairs_remove (λ (a b : HeldRow). a.placed.at ≢ b.placed.at) old gone.place gone.at.inside are.own;
  })

  -- The state lists other entries, and the rows of all sectors except one are sound for these.
  module _ {others : List PlacedEntry} where
    -- The rows are sound if the byte string of this sector is no longer listed.
    pub held_left : {new : List HeldRow} → {at : ℕ} → IsLeft old new at → ((h : HeldRow) → IsHeldRow entries h → h.placed.at ≢ at → IsHeldRow others h) → AreHeldRows others new
    held_left left moves =
        let was = row_of left.at in
        let row = unlisted left.hold in
        let sector = λ (h : HeldRow). h.placed.at in
        subst (AreHeldRows others) (sym left.is) (record {
          each = λ k d lt.
              let fits : k < length old = omega (arith, lt, length-set old left.place row) in
              ⊎_elim
              (λ is. subst (IsHeldRow others) (sym (get_or-set_at old left.place k row d (eqb-true k left.place is) left.at.inside))
              (record { fits = was.fits; some = was.some; listed = λ lists. absurd (false≢true lists) }))
              (λ isnt.
              let other : k ≢ left.place = eqb-false k left.place isnt in
              subst (IsHeldRow others) (sym (get_or-set_other old left.place k row d other))
              (moves (get_or old k d) (are.each k d fits) (λ same. other (same_place old k left.place d are.own fits left.at.inside (same ∙ sym (ap sector (left.at.is d) ∙ left.at.its))))))
              (cases_Bool (nat_eq k left.place));
          own = own_set old left.place row (λ d. ap sector (sym (left.at.is d))) are.own;
        })

    -- The rows are sound if no byte string of this sector is held.
    pub held_unheld : {at : ℕ} → IsUnheld old at → ((h : HeldRow) → IsHeldRow entries h → h.placed.at ≢ at → IsHeldRow others h) → AreHeldRows others old
    held_unheld absent moves = record {
      each = λ k d lt. moves (get_or old k d) (are.each k d lt) (absent k d lt);
      own = are.own;
    }

-- One more row raises a sum over the rows by the new row's value.
sum_once : (f : HeldRow → ℕ) {old new : List HeldRow} {placed : PlacedEntry} → IsHeldOnce old new placed → sum_by f new ≡ sum_by f old + f (first_row placed)
sum_once f {old = old} {placed = placed} once = omega (arith, ap (sum_by f) once.is, sum_by-insert f old once.place (first_row placed))

-- Replacing a row changes a sum over the rows by the difference of the two values.
sum_set : (f : HeldRow → ℕ) {old : List HeldRow} {sector place : ℕ} {hold : HeldRow} → IsAtPlace old sector place hold → (row : HeldRow)
    → sum_by f (set old place row) + f hold ≡ sum_by f old + f row
sum_set f {old = old} {place = place} at row = omega (arith, ap f (at.is no_row), sum_by-set f old place row no_row at.inside)

-- Removing a row lowers a sum over the rows by the removed row's value.
sum_gone : (f : HeldRow → ℕ) {old new : List HeldRow} {sector : ℕ} {hold : HeldRow} → IsLetGo old new sector hold → sum_by f new + f hold ≡ sum_by f old
sum_gone f {old = old} gone = omega (arith, ap (sum_by f) gone.is, sum_by-remove f old gone.place no_row gone.at.inside, ap f (gone.at.is no_row))

-- a row keeps all sectors of its byte string if the state doesn't list it, and otherwise none
own_all : (hold : HeldRow) → hold.listed ≡ false → own_sectors hold ≡ sectors_of hold.placed
own_all hold is = ap (λ b. if b then [] else sectors_of hold.placed) is

own_none : (hold : HeldRow) → hold.listed ≡ true → own_sectors hold ≡ []
own_none hold is = ap (λ b. if b then [] else sectors_of hold.placed) is

flat_map-set_same : {X : Type 0} (f : X → List ℕ) (xs : List X) (i : ℕ) (x d : X) → f x ≡ f (get_or xs i d) → flat_map f (set xs i x) ≡ flat_map f xs
flat_map-set_same f [] i x d same = refl
flat_map-set_same f (y ∷ xs) zero x d same = ap (λ l. l ++ flat_map f xs) same
flat_map-set_same f (y ∷ xs) (suc i) x d same = ap (λ l. f y ++ l) (flat_map-set_same f xs i x d same)

-- The first holder of a byte string keeps no sectors, because the state lists it.
pub lone_once : {old new : List HeldRow} {placed : PlacedEntry} → IsHeldOnce old new placed → lone_sectors new ≡ lone_sectors old
lone_once {old = old} {placed = placed} once =
    let before = take once.place old in
    let behind = drop once.place old in
    ap lone_sectors once.is ∙ flat_map-append own_sectors before (first_row placed ∷ behind) ∙ sym (flat_map-append own_sectors before behind) ∙ ap lone_sectors (take-append-drop once.place old)

-- A change of the number of holders doesn't change the sectors that they keep.
lone_counted : {old : List HeldRow} {sector place : ℕ} {hold : HeldRow} (holders : ℕ) → IsAtPlace old sector place hold
    → lone_sectors (set old place (with_holders holders hold)) ≡ lone_sectors old
lone_counted {old = old} {place = place} {hold = hold} holders at = flat_map-set_same own_sectors old place (with_holders holders hold) no_row (ap own_sectors (sym (at.is no_row)))

pub lone_more : {old new : List HeldRow} {sector : ℕ} → IsHeldMore old new sector → lone_sectors new ≡ lone_sectors old
lone_more more = ap lone_sectors more.is ∙ lone_counted (more.hold.holders + 1) more.at

pub lone_less : {old new : List HeldRow} {sector : ℕ} → IsHeldLess old new sector → lone_sectors new ≡ lone_sectors old
lone_less less = ap lone_sectors less.is ∙ lone_counted less.holders less.at

-- A function `f` that counts sectors, and is 0 for no sectors.
module _ (f : List ℕ → ℕ) (none : f [] ≡ 0) (adds : (held : List HeldRow) → f (lone_sectors held) ≡ sum_by (λ hold. f (own_sectors hold)) held) where
  left_adds : {old new : List HeldRow} {sector : ℕ} (left : IsLeft old new sector) → left.hold.listed ≡ true → f (lone_sectors new) ≡ f (lone_sectors old) + f (sectors_of left.hold.placed)
  left_adds {old = old} {new = new} left listed =
      let g = λ (hold : HeldRow). f (own_sectors hold) in
      omega (arith, none, adds old, adds new, ap (sum_by g) left.is, sum_set g left.at (unlisted left.hold), ap f (own_none left.hold listed))

  gone_takes : {old new : List HeldRow} {sector : ℕ} {hold : HeldRow} → IsLetGo old new sector hold → hold.listed ≡ false
      → f (lone_sectors new) + f (sectors_of hold.placed) ≡ f (lone_sectors old)
  gone_takes {old = old} {new = new} {hold = hold} gone listed =
      omega (arith, adds old, adds new, sum_gone (λ (row : HeldRow). f (own_sectors row)) gone, ap f (own_all hold listed))

  gone_leaves : {old new : List HeldRow} {sector : ℕ} {hold : HeldRow} → IsLetGo old new sector hold → hold.listed ≡ true → f (lone_sectors new) ≡ f (lone_sectors old)
  gone_leaves {old = old} {new = new} {hold = hold} gone listed =
      omega (arith, none, adds old, adds new, sum_gone (λ (row : HeldRow). f (own_sectors row)) gone, ap f (own_none hold listed))

-- Once the state no longer lists a byte string, its holders keep its sectors.
pub left_occurs : {old new : List HeldRow} {sector : ℕ} (left : IsLeft old new sector) → left.hold.listed ≡ true → (k : ℕ)
    → occurs k (lone_sectors new) ≡ occurs k (lone_sectors old) + occurs k (sectors_of left.hold.placed)
left_occurs left listed k = left_adds (occurs k) refl (occurs-flat_map k own_sectors) left listed

pub left_length : {old new : List HeldRow} {sector : ℕ} (left : IsLeft old new sector) → left.hold.listed ≡ true
    → length (lone_sectors new) ≡ length (lone_sectors old) + length (sectors_of left.hold.placed)
left_length left listed = left_adds length refl (length-flat_map own_sectors) left listed

-- When the last holder releases an unlisted byte string, its sectors are no longer kept.
pub gone_occurs : {old new : List HeldRow} {sector : ℕ} {hold : HeldRow} → IsLetGo old new sector hold → hold.listed ≡ false → (k : ℕ)
    → occurs k (lone_sectors new) + occurs k (sectors_of hold.placed) ≡ occurs k (lone_sectors old)
gone_occurs gone listed k = gone_takes (occurs k) refl (occurs-flat_map k own_sectors) gone listed

pub gone_length : {old new : List HeldRow} {sector : ℕ} {hold : HeldRow} → IsLetGo old new sector hold → hold.listed ≡ false
    → length (lone_sectors new) + length (sectors_of hold.placed) ≡ length (lone_sectors old)
gone_length gone listed = gone_takes length refl (length-flat_map own_sectors) gone listed

-- When the last holder releases a listed byte string, the kept sectors stay the same.
pub gone_listed_occurs : {old new : List HeldRow} {sector : ℕ} {hold : HeldRow} → IsLetGo old new sector hold → hold.listed ≡ true → (k : ℕ)
    → occurs k (lone_sectors new) ≡ occurs k (lone_sectors old)
gone_listed_occurs gone listed k = gone_leaves (occurs k) refl (occurs-flat_map k own_sectors) gone listed

pub gone_listed_length : {old new : List HeldRow} {sector : ℕ} {hold : HeldRow} → IsLetGo old new sector hold → hold.listed ≡ true → length (lone_sectors new) ≡ length (lone_sectors old)
gone_listed_length gone listed = gone_leaves length refl (length-flat_map own_sectors) gone listed

-- the number of holders that a row counts for the byte string with this entry sector
abbrev holders_at : ℕ → HeldRow → ℕ
holders_at sector hold = if hold.placed.at == sector then hold.holders else 0

one_more : (b : Bool) (n : ℕ) → (if b then n + 1 else 0) ≡ (if b then n else 0) + (if b then 1 else 0)
one_more true n = refl
one_more false n = refl

-- If a byte string is held for the first time, its number of holders grows by one.
pub holders_once : {old new : List HeldRow} {placed : PlacedEntry} → IsHeldOnce old new placed → (sector : ℕ) → holders_of new sector ≡ holders_of old sector + (if placed.at == sector then 1 else 0)
holders_once once sector = sum_once (holders_at sector) once

pub holders_more : {old new : List HeldRow} {at : ℕ} → IsHeldMore old new at → (sector : ℕ) → holders_of new sector ≡ holders_of old sector + (if at == sector then 1 else 0)
holders_more {old = old} {at = at} more sector =
    let row = more.hold in
    omega (
      arith,
      ap (λ l. holders_of l sector) more.is,
      sum_set (holders_at sector) more.at (with_holders (row.holders + 1) row),
      one_more (row.placed.at == sector) row.holders,
      ap {B = ℕ} (λ k. if k == sector then 1 else 0) more.at.its,
    )

-- The number of holders stays the same once the state no longer lists a byte string.
pub holders_left : {old new : List HeldRow} {at : ℕ} → IsLeft old new at → (sector : ℕ) → holders_of new sector ≡ holders_of old sector
holders_left left sector =
    omega (arith, ap (λ l. holders_of l sector) left.is, sum_set (holders_at sector) left.at (unlisted left.hold))

-- The number of holders is one less after a holder releases a byte string.
pub holders_less : {old new : List HeldRow} {at : ℕ} → IsHeldLess old new at → (sector : ℕ) → holders_of old sector ≡ holders_of new sector + (if at == sector then 1 else 0)
holders_less less sector =
    let row = less.hold in
    omega (
      arith,
      ap (λ l. holders_of l sector) less.is,
      sum_set (holders_at sector) less.at (with_holders less.holders row),
      ap (λ n. if row.placed.at == sector then n else 0) less.was,
      one_more (row.placed.at == sector) less.holders,
      ap {B = ℕ} (λ k. if k == sector then 1 else 0) less.at.its,
    )

-- The number of holders is one less after the last holder releases the byte string.
pub holders_gone : {entries : List PlacedEntry} {old new : List HeldRow} {at : ℕ} {hold : HeldRow} → AreHeldRows entries old
    → IsLetGo old new at hold → (sector : ℕ) → holders_of old sector ≡ holders_of new sector + (if at == sector then 1 else 0)
holders_gone {hold = hold} are gone sector =
    let one : hold.holders ≡ 1 = omega (arith, gone.last, (row_of are gone.at).some) in
    omega (
      arith,
      sum_gone (holders_at sector) gone,
      ap (λ n. if hold.placed.at == sector then n else 0) one,
      ap {B = ℕ} (λ k. if k == sector then 1 else 0) gone.at.its,
    )

-- If a byte string isn't held, it has no holders.
pub holders_unheld : (held : List HeldRow) (sector : ℕ) → IsUnheld held sector → holders_of held sector ≡ 0
holders_unheld [] sector absent = refl
holders_unheld (row ∷ held) sector absent =
    let other : (row.placed.at == sector) ≡ false = ne_eqb row.placed.at sector (absent 0 row (omega arith)) in
    omega (
      arith,
      sum_by-cons (holders_at sector) row held,
      ap (λ b. if b then row.holders else 0) other,
      holders_unheld held sector (λ k d lt. absent (suc k) d (omega (arith, lt))),
    )

-- The entry of a held byte string is in its row.
pub by_place : {held : List HeldRow} {sector place : ℕ} {hold : HeldRow} → IsAtPlace held sector place hold → IsHeldBy held sector hold.placed
by_place {place = place} at = record { place = place; inside = at.inside; is = λ d. ap (λ (h : HeldRow). h.placed) (at.is d); its = at.its }

pub by_first : {old new : List HeldRow} {placed : PlacedEntry} → IsHeldOnce old new placed → IsHeldBy new placed.at placed
by_first {old = old} {placed = placed} once =
    let row = first_row placed in
    subst (λ l. IsHeldBy l placed.at placed) (sym once.is) (record {
      place = once.place;
      inside = omega (arith, length-insert old once.place row once.inside, once.inside);
      is = λ d. ap (λ (h : HeldRow). h.placed) (get_or-insert_at old once.place row d once.inside);
      its = refl;
    })

-- A held byte string has one row.
pub by_one : {held : List HeldRow} {sector : ℕ} {p q : PlacedEntry} → HaveOwnRows held → IsHeldBy held sector p → IsHeldBy held sector q → p ≡ q
by_one {held = held} own first second =
    let sector = λ (placed : PlacedEntry). placed.at in
    let same = ap sector (first.is no_row) ∙ first.its ∙ sym (ap sector (second.is no_row) ∙ second.its) in
    let is : first.place ≡ second.place = same_place held first.place second.place no_row own first.inside second.inside same in
    sym (first.is no_row) ∙ ap (λ k. (get_or held k no_row).placed) is ∙ second.is no_row

-- The entry of a held byte string stays in a row when another byte string is held for the first time.
pub by_once : {old new : List HeldRow} {sector : ℕ} {p placed : PlacedEntry} → IsHeldOnce old new placed → IsHeldBy old sector p → IsHeldBy new sector p
by_once {old = old} {sector = sector} {p = p} {placed = placed} once by =
    let row = first_row placed in
    let more = length-insert old once.place row once.inside in
    subst (λ l. IsHeldBy l sector p) (sym once.is) (⊎_elim
    (λ before. record {
      place = by.place;
      inside = omega (arith, by.inside, more);
      is = λ d. ap (λ (h : HeldRow). h.placed) (get_or-insert_below old once.place row d by.place before once.inside) ∙ by.is d;
      its = by.its;
    })
    (λ behind. record {
      place = by.place + 1;
      inside = omega (arith, by.inside, more);
      is = λ d. ap (λ (h : HeldRow). h.placed) (get_or-insert_above old once.place row d by.place behind once.inside) ∙ by.is d;
      its = by.its;
    })
    (cases_lt by.place once.place))

-- The entry of a held byte string stays in a row when a row is replaced.
by_set : {old : List HeldRow} {sector at place : ℕ} {p : PlacedEntry} {hold : HeldRow} → IsAtPlace old at place hold → (row : HeldRow)
    → row.placed ≡ hold.placed → IsHeldBy old sector p → IsHeldBy (set old place row) sector p
by_set {old = old} {place = place} at row same by =
    let entry = λ (h : HeldRow). h.placed in record {
      place = by.place;
      inside = omega (arith, by.inside, length-set old place row);
      is = λ d. field_set entry old place row (λ e. same ∙ ap entry (sym (at.is e))) by.place d ∙ by.is d;
      its = by.its;
    }

pub by_more : {old new : List HeldRow} {sector at : ℕ} {p : PlacedEntry} → IsHeldMore old new at → IsHeldBy old sector p → IsHeldBy new sector p
by_more {sector = sector} {p = p} more by = subst (λ l. IsHeldBy l sector p) (sym more.is) (by_set more.at (with_holders (more.hold.holders + 1) more.hold) refl by)

pub by_left : {old new : List HeldRow} {sector at : ℕ} {p : PlacedEntry} → IsLeft old new at → IsHeldBy old sector p → IsHeldBy new sector p
by_left {sector = sector} {p = p} left by = subst (λ l. IsHeldBy l sector p) (sym left.is) (by_set left.at (unlisted left.hold) refl by)

pub by_less : {old new : List HeldRow} {sector at : ℕ} {p : PlacedEntry} → IsHeldLess old new at → IsHeldBy old sector p → IsHeldBy new sector p
by_less {sector = sector} {p = p} less by = subst (λ l. IsHeldBy l sector p) (sym less.is) (by_set less.at (with_holders less.holders less.hold) refl by)

-- The entry of a held byte string stays in a row when the row of another one is removed.
pub by_gone_other : {old new : List HeldRow} {sector at : ℕ} {p : PlacedEntry} {hold : HeldRow} → IsLetGo old new at hold → sector ≢ at → IsHeldBy old sector p → IsHeldBy new sector p
by_gone_other {old = old} {sector = sector} {at = at} {p = p} {hold = hold} gone apart by =
    let entry = λ (h : HeldRow). h.placed in
    let fewer = length-remove old gone.place gone.at.inside in
    let other : by.place ≢ gone.place = (λ same.
    let is : p ≡ hold.placed = sym (by.is no_row) ∙ ap (λ k. (get_or old k no_row).placed) same ∙ ap entry (gone.at.is no_row) in
    apart (sym by.its ∙ ap (λ (placed : PlacedEntry). placed.at) is ∙ gone.at.its)) in
    subst (λ l. IsHeldBy l sector p) (sym gone.is) (record {
      place = closed_up gone.place by.place;
      inside = closed_inside gone.place (length (remove old gone.place)) by.place other (omega (arith, by.inside, fewer)) (omega (arith, gone.at.inside, fewer));
      is = λ d. ap entry (at_closed old gone.place by.place d other gone.at.inside) ∙ by.is d;
      its = by.its;
    })

-- After the row of a sector is removed, no row has this sector.
pub gone_unheld : {old new : List HeldRow} {at : ℕ} {hold : HeldRow} → HaveOwnRows old → IsLetGo old new at hold → IsUnheld new at
gone_unheld {old = old} {at = at} own gone =
    let sector = λ (h : HeldRow). h.placed.at in
    subst (λ l. IsUnheld l at) (sym gone.is) (λ k d lt same.
    let stood = stood_at old gone.place k gone.at.inside lt in
    stood.2 (same_place old stood.0 gone.place d own stood.1 gone.at.inside (ap sector (sym (stood.3 d)) ∙ same ∙ sym (ap sector (gone.at.is d) ∙ gone.at.its))))

-- A byte string that somebody holds still has its row after a row is removed.
pub by_gone : {old new : List HeldRow} {sector at : ℕ} {p : PlacedEntry} {hold : HeldRow} → HaveOwnRows old → IsLetGo old new at hold
    → 0 < holders_of new sector → IsHeldBy old sector p → IsHeldBy new sector p
by_gone {new = new} {sector = sector} {at = at} own gone some by =
    by_gone_other gone (λ same. absurd (omega (arith, some, ap (holders_of new) same, holders_unheld new at (gone_unheld own gone)))) by

-- An entry that is in a row after a row is replaced was in a row before.
by_set_back : {old : List HeldRow} {sector at place : ℕ} {p : PlacedEntry} {hold : HeldRow} → IsAtPlace old at place hold → (row : HeldRow)
    → row.placed ≡ hold.placed → IsHeldBy (set old place row) sector p → IsHeldBy old sector p
by_set_back {old = old} {place = place} at row same by =
    let entry = λ (h : HeldRow). h.placed in record {
      place = by.place;
      inside = omega (arith, by.inside, length-set old place row);
      is = λ d. sym (field_set entry old place row (λ e. same ∙ ap entry (sym (at.is e))) by.place d) ∙ by.is d;
      its = by.its;
    }

pub by_left_back : {old new : List HeldRow} {sector at : ℕ} {p : PlacedEntry} → IsLeft old new at → IsHeldBy new sector p → IsHeldBy old sector p
by_left_back {sector = sector} {p = p} left by = by_set_back left.at (unlisted left.hold) refl (subst (λ l. IsHeldBy l sector p) left.is by)

pub by_less_back : {old new : List HeldRow} {sector at : ℕ} {p : PlacedEntry} → IsHeldLess old new at → IsHeldBy new sector p → IsHeldBy old sector p
by_less_back {sector = sector} {p = p} less by = by_set_back less.at (with_holders less.holders less.hold) refl (subst (λ l. IsHeldBy l sector p) less.is by)

pub by_gone_back : {old new : List HeldRow} {sector at : ℕ} {p : PlacedEntry} {hold : HeldRow} → IsLetGo old new at hold → IsHeldBy new sector p → IsHeldBy old sector p
by_gone_back {old = old} {sector = sector} {p = p} gone by_new =
    let by = subst (λ l. IsHeldBy l sector p) gone.is by_new in
    let stood = stood_at old gone.place by.place gone.at.inside by.inside in record {
      place = stood.0;
      inside = stood.1;
      is = λ d. ap (λ (h : HeldRow). h.placed) (sym (stood.3 d)) ∙ by.is d;
      its = by.its;
    }

-- A byte string that has a row has a holder.
pub by_some : {entries : List PlacedEntry} {held : List HeldRow} {sector : ℕ} {p : PlacedEntry} → AreHeldRows entries held → IsHeldBy held sector p → 0 < holders_of held sector
by_some {held = held} {sector = sector} are by =
    let row = get_or held by.place no_row in
    let its : (row.placed.at == sector) ≡ true = eq-eqb row.placed.at sector (ap (λ (placed : PlacedEntry). placed.at) (by.is no_row) ∙ by.its) in
    omega (
      arith,
      (are.each by.place no_row by.inside).some,
      ap (λ b. if b then row.holders else 0) its,
      get_or-le-sum_by (holders_at sector) held by.place no_row by.inside,
    )
