-- Lemmas about binders in slots, which stay on their flights.
use Rattle.std.proofs.Common.{◌≡◌, ◌≢◌, ℕ, zero, suc, ◌<◌, List, [], ◌∷◌, length, get_or, set, Option, Some, None, ⊎_elim, refl, sym, ap, subst, ◌∙◌, arith}
use Rattle.std.proofs.lemmas.Bool.{cases_lt}
use Rattle.std.proofs.Math.ListN.{get_or-eq_default}
use Rattle.std.proofs.lemmas.List.{length-set, get_or-set_same, get_or-set_other}
use Rattle.sector_disk.specs.Disk.{DiskFacts}
use Rattle.store.specs.Opened.{Opened}
use Rattle.registry.specs.Flight.{Flight}
use Rattle.registry.specs.Flying.{Flies}
use Rattle.registry.specs.inside.Binding.{Binding}
use Rattle.binders.specs.Slotted.{AreOn, IsOn, Slotted}

-- a registry with these slots
abbrev pub with_slots : {D : Type 0} → Opened D → List (Option Binding) → Slotted D
with_slots registry slots = record { registry = registry; slots = slots }

-- a position that has an element is less than the length of the list
pub there_is : {X : Type 0} (xs : List (Option X)) (i : ℕ) (x : X) → get_or xs i None ≡ Some x → i < length xs
there_is xs i x is = ⊎_elim (λ inside. inside) (λ outside. absurd (some_none (sym is ∙ get_or-eq_default xs None outside))) (cases_lt i (length xs))
  where
    some_none : Some x ≡ None → ⊥
    some_none e = cc

-- of two values written at the same position, the second one stays
pub set_twice : {X : Type 0} (xs : List X) (i : ℕ) (x y : X) → set (set xs i x) i y ≡ set xs i y
set_twice [] i x y = refl
set_twice (z ∷ zs) zero x y = refl
set_twice (z ∷ zs) (suc i) x y = ap (λ l. z ∷ l) (set_twice zs i x y)

module _ {D : Type 0} (facts : D → DiskFacts) where
  is_on_moved : (old new : Opened D) → ((b : Binding) (f : Flight) → Flies facts old b f → Flies facts new b f) → (o : Option Binding) (p : Option Flight) → IsOn facts old o p → IsOn facts new o p
  is_on_moved old new moves None None on = tt
  is_on_moved old new moves (Some b) (Some f) on = moves b f on
  is_on_moved old new moves None (Some f) on = absurd on
  is_on_moved old new moves (Some b) None on = absurd on

  -- if every binder stays on its flight, the binders in the slots stay on their flights
  pub are_on_moved : (old new : Opened D) (slots : List (Option Binding)) (flights : List (Option Flight)) → ((b : Binding) (f : Flight) → Flies facts old b f → Flies facts new b f)
      → AreOn facts (with_slots old slots) flights → AreOn facts (with_slots new slots) flights
  are_on_moved old new slots flights moves on = record {
    count = on.count;
    each = λ i lt. is_on_moved old new moves (get_or slots i None) (get_or flights i None) (on.each i lt);
  }

  -- if a slot gets a binder on a flight, or neither, the binders in the slots are on the changed flights
  pub are_on_set : (registry : Opened D) (slots : List (Option Binding)) (flights : List (Option Flight))
      → AreOn facts (with_slots registry slots) flights → (slot : ℕ) (o : Option Binding) (p : Option Flight) → IsOn facts registry o p
      → AreOn facts (with_slots registry (set slots slot o)) (set flights slot p)
  are_on_set registry slots flights on slot o p is = record {
    count = length-set flights slot p ∙ on.count ∙ sym (length-set slots slot o);
    each = λ i lt. by i (omega (arith, lt, length-set flights slot p));
  }
    where
      at : (i : ℕ) → i < length flights → i ≡ slot → IsOn facts registry (get_or (set slots slot o) i None) (get_or (set flights slot p) i None)
      at i lt same =
          let there : slot < length flights = subst (λ k. k < length flights) same lt in
          subst (λ k. IsOn facts registry (get_or (set slots slot o) k None) (get_or (set flights slot p) k None)) (sym same)
          (subst (λ x. IsOn facts registry x (get_or (set flights slot p) slot None)) (sym (get_or-set_same slots slot o None (omega (arith, there, on.count))))
          (subst (λ y. IsOn facts registry o y) (sym (get_or-set_same flights slot p None there)) is))

      beside : (i : ℕ) → i < length flights → i ≢ slot → IsOn facts registry (get_or (set slots slot o) i None) (get_or (set flights slot p) i None)
      beside i lt other =
          subst (λ x. IsOn facts registry x (get_or (set flights slot p) i None)) (sym (get_or-set_other slots slot i o None other))
          (subst (λ y. IsOn facts registry (get_or slots i None) y) (sym (get_or-set_other flights slot i p None other)) (on.each i lt))

      by : (i : ℕ) → i < length flights → IsOn facts registry (get_or (set slots slot o) i None) (get_or (set flights slot p) i None)
      by i lt = ⊎_elim
          (λ before. beside i lt (λ same. absurd (omega (arith, before, same))))
          (λ from. ⊎_elim
          (λ behind. beside i lt (λ same. absurd (omega (arith, behind, same))))
          (λ upto. at i lt (omega (arith, from, upto)))
          (cases_lt slot i))
          (cases_lt i slot)

  -- if a slot has a binder and a flight, the binder is on this flight
  pub binder_on : (registry : Opened D) (slots : List (Option Binding)) (flights : List (Option Flight))
      → AreOn facts (with_slots registry slots) flights → (slot : ℕ) (flight : Flight) → get_or flights slot None ≡ Some flight
      → (b : Binding) → get_or slots slot None ≡ Some b → Flies facts registry b flight
  binder_on registry slots flights on slot flight is b there =
      let lt : slot < length flights = there_is flights slot flight is in
      subst (λ (p : Option Flight). IsOn facts registry (Some b) p) is (subst (λ (o : Option Binding). IsOn facts registry o (get_or flights slot None)) there (on.each slot lt))

  -- a slot without a binder has no flight
  pub no_flight_on : (registry : Opened D) (slots : List (Option Binding)) (flights : List (Option Flight))
      → AreOn facts (with_slots registry slots) flights → (slot : ℕ) → get_or slots slot None ≡ None → get_or flights slot None ≡ None
  no_flight_on registry slots flights on slot none = by (get_or flights slot None) refl
    where
      by : (p : Option Flight) → get_or flights slot None ≡ p → get_or flights slot None ≡ None
      by None is = is
      by (Some flight) is = absurd (off (subst (λ (p : Option Flight). IsOn facts registry None p) is
          (subst (λ (o : Option Binding). IsOn facts registry o (get_or flights slot None)) none (on.each slot (there_is flights slot flight is)))))
        where
          off : IsOn facts registry None (Some flight) → ⊥
          off on = on

  -- if each binder in a slot stays on its flight, the binders in the slots stay on their flights
  pub are_on_left : (old new : Opened D) (slots : List (Option Binding)) (flights : List (Option Flight))
      → ((b : Binding) (f : Flight) (i : ℕ) → get_or slots i None ≡ Some b → Flies facts old b f → Flies facts new b f)
      → AreOn facts (with_slots old slots) flights → AreOn facts (with_slots new slots) flights
  are_on_left old new slots flights moves on = record {
    count = on.count;
    each = λ i lt. by i (get_or slots i None) refl (get_or flights i None) (on.each i lt);
  }
    where
      by : (i : ℕ) (o : Option Binding) → get_or slots i None ≡ o → (p : Option Flight) → IsOn facts old o p → IsOn facts new o p
      by i None is None on = tt
      by i (Some b) is (Some f) on = moves b f i is on
      by i None is (Some f) on = absurd on
      by i (Some b) is None on = absurd on
