-- Holding byte strings one by one, and releasing them again if a hold is refused.
use Rattle.std.proofs.Common.{◌≡◌, ⊎_elim, ℕ, suc, ◌+◌, ◌<◌, ◌≤◌, ◌==◌, eqb, if◌then◌else◌, List, [], ◌∷◌, ◌++◌, length, get_or, Ok, Err, IsFalse, refl, sym, ap, subst, ◌∙◌, arith}
use Rattle.std.proofs.lemmas.Bool.{cases_eq, cases_lt, cond-false, false≢true, ne_eqb}
use Rattle.std.proofs.lemmas.List.{get_or_append_left, get_or_push, length-append}
use Rattle.std.proofs.lemmas.List.Sums.{sum_by-append, sum_by-cons}
use Rattle.sector_disk.specs.Disk.{DiskFacts}
use Rattle.store.specs.declared.placed_entry.PlacedEntry.{PlacedEntry}
use Rattle.store.specs.declared.refusal.StoreRefusal.{StoreRefusal}
use Rattle.store.specs.declared.refusal.StoreRefusal.TheVariants.{OutOfMemory}
use Rattle.store.specs.declared.holds.HeldRow.{HeldRow}
use Rattle.store.specs.Holds.{AreFlagged, AreHolds, HeldIs, TakesHold, IsHeldBy, KeepsHeld, holders_of}
use Rattle.store.specs.Opened.{Opened}
use Rattle.store.specs.Stands.{no_library}
use Rattle.store.proofs.HeldRows.{by_one}
use Rattle.snapshots.specs.Snapshot.{LetsAllGo, times}
use Rattle.snapshots.specs.inside.HoldsAll.{HoldsFirst, StaysBeside}

-- with one more handle, each sector is among the handles as often as before, and the handle's own
-- sector once more
pub times-push : (sector handle : ℕ) (handles : List ℕ) → times sector (handles ++ handle ∷ []) ≡ times sector handles + (if handle == sector then 1 else 0)
times-push sector handle handles =
    let one : ℕ → ℕ = λ h. if h == sector then 1 else 0 in
    omega (arith, sum_by-append one handles (handle ∷ []), sum_by-cons one handle [])

-- a byte string that somebody holds has a row
some_row : (held : List HeldRow) (sector : ℕ) → 0 < holders_of held sector → (placed : PlacedEntry) × IsHeldBy held sector placed
some_row [] sector some = absurd (omega (arith, some))
some_row (row ∷ rows) sector some = ⊎_elim
    (λ same. (row.placed, record { place = 0; inside = omega arith; is = λ d. refl; its = same }))
    (λ other.
    let none = cond-false (eqb row.placed.at sector) row.holders 0 (ne_eqb row.placed.at sector other) in
    let later = some_row rows sector (omega (arith, some, none, sum_by-cons (λ (h : HeldRow). if h.placed.at == sector then h.holders else 0) row rows)) in
    (later.0, record { place = suc later.1.place; inside = omega (arith, later.1.inside); is = later.1.is; its = later.1.its }))
    (cases_eq row.placed.at sector)

-- if the new rows were all there before, and there were none before, there are none now
none_after : (old new : List HeldRow) → ((sector : ℕ) (placed : PlacedEntry) → IsHeldBy new sector placed → IsHeldBy old sector placed) → old ≡ [] → new ≡ []
none_after old [] back none = refl
none_after old (row ∷ rows) back none =
    let was = back row.placed.at row.placed (record { place = 0; inside = omega arith; is = λ d. refl; its = refl }) in
    absurd (omega (arith, was.inside, ap length none))

module _ {D : Type 0} (facts : D → DiskFacts) {old : Opened D} where
  -- an unchanged store keeps everything that was held
  pub stays : AreFlagged old → StaysBeside facts old old
  stays flags = record {
    others = λ sector library is. is;
    holds = λ sector placed by. by;
    flags = flags;
    kept = (refl, refl, refl, refl);
    same = λ s at. at;
  }

  -- at the beginning, no handle holds a byte string
  pub none_held : AreFlagged old → HoldsFirst facts old old 0 []
  none_held flags = record {
    size = refl;
    each = λ i d lt. absurd (omega (arith, lt));
    libraries = λ s at i lt. absurd (omega (arith, lt));
    holders = λ sector. omega arith;
    beside = stays flags;
  }

  -- one more byte string is held
  module _ {between new : Opened D} (count handle : ℕ) (handles : List ℕ) (before : HoldsFirst facts old between count handles) (now : TakesHold facts between new count (Ok handle)) where
    abbrev more : List ℕ
    more = handles ++ handle ∷ []

    its : (i : ℕ) → i < count → get_or handles i 0 ≡ get_or more i 0
    its i lt = sym (get_or_append_left handles (handle ∷ []) 0 i (omega (arith, lt, before.size)))

    last : (i : ℕ) → count ≤ i → i < count + 1 → handle ≡ get_or more i 0
    last i from upto = sym (get_or_push handles handle 0 i (omega (arith, from, upto, before.size)))

    pub more_held : HoldsFirst facts old new (count + 1) more
    more_held = record {
      size = omega (arith, length-append handles (handle ∷ []), before.size);
      each = λ i d lt. ⊎_elim
          (λ early. subst (λ h. IsHeldBy new.held h (get_or old.entries i d)) (its i early) (now.holds (get_or handles i 0) (get_or old.entries i d) (before.each i d early)))
          (λ from.
          let is : count ≡ i = omega (arith, from, lt) in
          subst (λ h. IsHeldBy new.held h (get_or old.entries i d)) (last i from lt)
          (subst (λ k. IsHeldBy new.held handle (get_or old.entries k d)) is
          (subst (λ l. IsHeldBy new.held handle (get_or l count d)) before.beside.kept.2 (now.hold d))))
          (cases_lt i count);
      libraries = λ s at i lt. ⊎_elim
          (λ early. subst (λ h. HeldIs facts new h (get_or s.libraries i no_library)) (its i early) (now.others (get_or handles i 0) (get_or s.libraries i no_library) (before.libraries s at i early)))
          (λ from.
          let is : count ≡ i = omega (arith, from, lt) in
          subst (λ h. HeldIs facts new h (get_or s.libraries i no_library)) (last i from lt)
          (subst (λ k. HeldIs facts new handle (get_or s.libraries k no_library)) is
          (now.ok s (before.beside.same s at))))
          (cases_lt i count);
      holders = λ sector. omega (arith, now.holders sector, before.holders sector, times-push sector handle handles);
      beside = record {
        others = λ sector library is. now.others sector library (before.beside.others sector library is);
        holds = λ sector placed by. now.holds sector placed (before.beside.holds sector placed by);
        flags = now.flags;
        kept = (now.kept.0 ∙ before.beside.kept.0, now.kept.1 ∙ before.beside.kept.1, now.kept.2 ∙ before.beside.kept.2, now.kept.3 ∙ before.beside.kept.3);
        same = λ s at. now.same s (before.beside.same s at);
      };
    }

  -- Once the handles have released their byte strings again, each has as many holders as before.
  module _ {between new : Opened D} {count : ℕ} {handles : List ℕ} (sound : AreHolds old) (before : HoldsFirst facts old between count handles) (gone : LetsAllGo facts between new handles) where
    pub undone : (sector : ℕ) → holders_of new.held sector ≡ holders_of old.held sector
    undone sector = omega (arith, gone.holders sector, before.holders sector)

    still : (sector : ℕ) (placed : PlacedEntry) → IsHeldBy old.held sector placed → 0 < holders_of new.held sector
    still sector placed by = omega (arith, undone sector, sound.holders sector placed by)

    -- everything that was held before is held
    pub undone_beside : StaysBeside facts old new
    undone_beside = record {
      others = λ sector library is. gone.others sector library (still sector is.placed is.by) (before.beside.others sector library is);
      holds = λ sector placed by. (gone.holds sector placed).1 (before.beside.holds sector placed by, still sector placed by);
      flags = gone.flags;
      kept = (gone.kept.0 ∙ before.beside.kept.0, gone.kept.1 ∙ before.beside.kept.1, gone.kept.2 ∙ before.beside.kept.2, gone.kept.3 ∙ before.beside.kept.3);
      same = λ s at. gone.same s (before.beside.same s at);
    }

    -- nothing else is held, because each byte string has one row
    module _ (own : AreHolds new) where
      undone_holds : (sector : ℕ) (placed : PlacedEntry) → IsHeldBy new.held sector placed → IsHeldBy old.held sector placed
      undone_holds sector placed by =
          let was = some_row old.held sector (omega (arith, undone sector, ((gone.holds sector placed).0 by).1)) in
          subst (IsHeldBy old.held sector) (by_one own.rows (undone_beside.holds sector was.0 was.1) by) was.1

      pub undone_held : KeepsHeld facts old new
      undone_held = record {
        holders = undone;
        bytes = λ honest sector library is. undone_beside.others sector library is;
        holds = λ sector placed. (undone_beside.holds sector placed, undone_holds sector placed);
        none = none_after old.held new.held undone_holds;
      }

-- A hold in a store that hasn't failed is refused only for lack of memory, and then changes
-- nothing.
pub memory_refused : {D : Type 0} (facts : D → DiskFacts) {between new : Opened D} {position : ℕ} {e : StoreRefusal} → IsFalse between.failed
    → TakesHold facts between new position (Err e) → e ≡ OutOfMemory
memory_refused facts usable refused = ⊎_elim
    (λ reopen. absurd (false≢true (sym usable ∙ refused.reopen.0 (ap (λ e. Err e) reopen))))
    (λ memory. memory)
    refused.refusals
