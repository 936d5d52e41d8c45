-- Lemmas about how often binders in slots hold each byte string.
use Rattle.std.proofs.Common.{◌≡◌, ℕ, ◌+◌, ◌<◌, ◌≤◌, ◌==◌, List, [], ◌∷◌, length, get_or, set, Option, Some, None, if◌then◌else◌, Bool, true, refl, ap, arith}
use Rattle.std.specs.Prelude.{All, is_none}
use Rattle.std.proofs.lemmas.Bool.Decides.{Decides-eqb}
use Rattle.std.proofs.lemmas.List.Quantifiers.{position-Some}
use Rattle.std.proofs.lemmas.List.Elements.{All-head, All-tail}
use Rattle.std.proofs.lemmas.List.Sums.{get_or-le-sum_by, sum_by-cons, sum_by-set}
use Rattle.snapshots.specs.Snapshot.{times}
use Rattle.store.specs.Holds.{IsHeldBy, holders_of}
use Rattle.store.specs.declared.holds.HeldRow.{HeldRow}
use Rattle.store.specs.declared.placed_entry.PlacedEntry.{PlacedEntry}
use Rattle.registry.specs.inside.Binding.{Binding}
use Rattle.binders.specs.Slotted.{held_by, held_in, lowest_free}

-- if a slot gets another binder or none, the number of holds changes by the difference of both
pub held_set : (slots : List (Option Binding)) (slot : ℕ) (o : Option Binding) (sector : ℕ) → slot < length slots
    → held_by (set slots slot o) sector + held_in sector (get_or slots slot None) ≡ held_by slots sector + held_in sector o
held_set slots slot o sector lt = sum_by-set (held_in sector) slots slot o None lt

-- the binder in a slot holds no more than all binders do
pub held_within : (slots : List (Option Binding)) (slot : ℕ) (sector : ℕ) → slot < length slots → held_in sector (get_or slots slot None) ≤ held_by slots sector
held_within slots slot sector lt = get_or-le-sum_by (held_in sector) slots slot None lt

pub held_nobody : (slots : List (Option Binding)) → All (λ slot. slot ≡ None) slots → (sector : ℕ) → held_by slots sector ≡ 0
held_nobody [] none sector = refl
held_nobody (slot ∷ slots) none sector =
    let first : held_in sector slot ≡ 0 = ap (held_in sector) (All-head (λ o. o ≡ None) slot slots none) in
    let later : held_by slots sector ≡ 0 = held_nobody slots (All-tail (λ o. o ≡ None) slot slots none) sector in
    omega (arith, sum_by-cons (held_in sector) slot slots, first, later)

-- If each row has a holder, and no byte string has a holder, there are no rows.
pub held_empty : (held : List HeldRow) → ((sector : ℕ) (placed : PlacedEntry) → IsHeldBy held sector placed → 0 < holders_of held sector) → ((sector : ℕ) → holders_of held sector ≡ 0) → held ≡ []
held_empty [] some none = refl
held_empty (row ∷ rows) some none =
    let by : IsHeldBy (row ∷ rows) row.placed.at row.placed = record { place = 0; inside = omega arith; is = λ d. refl; its = refl } in
    absurd (omega (arith, some row.placed.at row.placed by, none row.placed.at))

same : (n : ℕ) → (n == n) ≡ true
same n = (Decides-eqb n n).1 refl

-- a handle in a list of handles counts as at least one hold of its byte string
pub times_there : (handles : List ℕ) (i : ℕ) → i < length handles → 0 < times (get_or handles i 0) handles
times_there handles i lt =
    let sector : ℕ = get_or handles i 0 in
    let one : ◌≡◌ {A = ℕ} (if sector == sector then 1 else 0) 1 = ap {B = ℕ} (λ (b : Bool). if b then 1 else 0) (same sector) in
    omega (arith, one, get_or-le-sum_by (λ h. if h == sector then 1 else 0) handles i 0 lt)

-- the lowest free slot has no binder
pub free_slot : (slots : List (Option Binding)) (slot : ℕ) → lowest_free slots ≡ Some slot → (slot < length slots) × (get_or slots slot None ≡ None)
free_slot slots slot is =
    let found = position-Some is_none slots slot None is in
    (found.0, none (get_or slots slot None) found.1)
  where
    none : (o : Option Binding) → is_none o ≡ true → o ≡ None
    none None e = refl
    none (Some b) e = absurd cc
