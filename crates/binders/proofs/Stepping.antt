-- Lemmas about beginning binders in slots, their steps, and ending them.
use Rattle.std.proofs.Common.{◌≡◌, ℕ, ◌+◌, ◌<◌, ◌≤◌, List, length, get_or, set, Option, Some, None, Result, Ok, Err, IsTrue, IsFalse, inl, inr, ⊎_elim, refl, sym, ap, subst, ◌∙◌, arith}
use Rattle.std.specs.Prelude.{◌⊎◌, IfErr}
use Rattle.std.proofs.lemmas.Bool.{false≢true}
use Rattle.std.proofs.lemmas.List.{set-get_or}
use Rattle.sector_disk.specs.Disk.{DiskFacts, Mixture, IsUnchanged, LeavesOnly, AreCalls}
use Rattle.sector_disk.proofs.Moments.{at_rest, no_calls}
use Rattle.snapshots.specs.Snapshot.{times}
use Rattle.store.specs.Holds.{holders_of}
use Rattle.store.specs.Opened.{Opened}
use Rattle.requests.specs.declared.refusal.Refusal.{Refusal}
use Rattle.requests.specs.declared.refusal.Refusal.TheVariants.{Reopen, NoSlot, NoSuchBinder, OutOfMemory}
use Rattle.requests.specs.declared.reply.Reply.{Reply}
use Rattle.requests.specs.declared.reply.Reply.TheVariants.{Done, Refused}
use Rattle.registry.specs.Flight.{Flight, IsBounded, begun}
use Rattle.registry.specs.Flying.{Advances, Begins, Ends, Flies, IsStep, IsStepRefusal, handles_of}
use Rattle.registry.specs.declared.binder.Step.{Step}
use Rattle.registry.specs.declared.binder.Step.TheVariants.{Going, Final}
use Rattle.registry.specs.inside.Binding.{Binding}
use Rattle.binders.specs.Slotted.{AreOn, HoldAlone, IsHeld, Slotted, held_by, held_in, lowest_free}
use Rattle.binders.specs.Stepped.{AdvancesIn, BeginsIn, CancelsIn, StaysAt}
use Rattle.binders.proofs.HeldBy.{free_slot, held_set, held_within, times_there}
use Rattle.binders.proofs.OnFlights.{are_on_left, are_on_moved, are_on_set, binder_on, no_flight_on, there_is, with_slots}

module _ {D : Type 0} (facts : D → DiskFacts) (old new : Opened D) (slots : List (Option Binding)) (program : List ℕ) (base : ℕ) where
  -- A binder is begun in the lowest free slot.
  module _ (binder : Binding) (slot : ℕ) (lowest : lowest_free slots ≡ Some slot) (begins : Begins facts old new program base (Ok binder)) where
    one_more : (sector : ℕ) → held_by (set slots slot (Some binder)) sector ≡ held_by slots sector + times sector (handles_of binder)
    one_more sector =
        let free = free_slot slots slot lowest in
        let none : held_in sector (get_or slots slot None) ≡ 0 = ap (held_in sector) free.1 in
        omega (arith, held_set slots slot (Some binder) sector free.0, none)

    pub begun_held : IsHeld old slots → IsHeld new (set slots slot (Some binder))
    begun_held held sector = omega (arith, held sector, one_more sector, begins.holders sector)

    pub begun_in : BeginsIn facts (with_slots old slots) (with_slots new (set slots slot (Some binder))) program base (Ok slot)
    begun_in = record {
      ok = λ s flights at on. (
        lowest,
        are_on_set facts new slots flights (are_on_moved facts old new slots flights begins.others on) slot
            (Some binder) (Some (begun program base s)) (begins.ok s at),
      );
      stays = record {
        same = begins.same;
        kept = (begins.kept.1, begins.kept.2, begins.kept.3);
        holders = λ sector. omega (arith, one_more sector, begins.holders sector);
        alone = λ alone sector. omega (arith, alone sector, one_more sector, begins.holders sector);
      };
      slots = (lowest, (binder, refl));
      err = tt;
      failed = λ failed. absurd (not_err (begins.reopen.1 failed));
      full = λ full. absurd (not_none (sym lowest ∙ full));
      disk = begins.kept.0;
      reopen = (λ is. absurd cc, λ failed. absurd (not_err (begins.reopen.1 failed)));
      no_slot = (λ is. absurd cc, λ both. absurd (not_none (sym lowest ∙ both.1)));
      refusals = tt;
    }
      where
        not_err : ◌≡◌ {A = Result Binding Refusal} (Ok binder) (Err Reopen) → ⊥
        not_err is = cc

        not_none : ◌≡◌ {A = Option ℕ} (Some slot) None → ⊥
        not_none is = cc

  -- If the registry refuses to begin a binder, so does the registry with slots.
  pub refused_in : (e : Refusal) → IsFalse old.failed → (slot : ℕ) → lowest_free slots ≡ Some slot → Begins facts old new program base (Err e)
      → BeginsIn facts (with_slots old slots) (with_slots new slots) program base (Err e)
  refused_in e usable slot lowest begins = record {
    ok = λ s flights at on. are_on_moved facts old new slots flights begins.others on;
    stays = record {
      same = begins.same;
      kept = (begins.kept.1, begins.kept.2, begins.kept.3);
      holders = λ sector. omega (arith, begins.unheld sector);
      alone = λ alone sector. begins.unheld sector ∙ alone sector;
    };
    slots = tt;
    err = (refl, λ flights on. are_on_moved facts old new slots flights begins.others on);
    failed = λ failed. absurd (false≢true (sym usable ∙ failed));
    full = λ full. absurd (not_none (sym lowest ∙ full));
    disk = begins.kept.0;
    reopen = (λ is. begins.reopen.0 (ap (λ r. Err r) (err_is Reopen is)), λ failed. absurd (false≢true (sym usable ∙ failed)));
    no_slot = (λ is. absurd (not_slot (err_is NoSlot is) begins.refusals), λ both. absurd (not_none (sym lowest ∙ both.1)));
    refusals = ⊎_elim (λ is. inl is) (λ is. inr (inr is)) begins.refusals;
  }
    where
      err_is : (r : Refusal) → ◌≡◌ {A = Result ℕ Refusal} (Err e) (Err r) → e ≡ r
      err_is r is = cc

      not_slot : e ≡ NoSlot → (e ≡ Reopen) ⊎ (e ≡ OutOfMemory) → ⊥
      not_slot is (inl other) = cc
      not_slot is (inr other) = cc

      not_none : ◌≡◌ {A = Option ℕ} (Some slot) None → ⊥
      not_none is = cc

-- a registry to which nothing is done stays at its state
pub stays_at : {D : Type 0} (facts : D → DiskFacts) (b : Slotted D) → StaysAt facts b b
stays_at facts b = record { same = λ s at. at; kept = (refl, refl, refl); holders = λ sector. refl; alone = λ alone. alone }

module _ {D : Type 0} (facts : D → DiskFacts) (old : Opened D) (slots : List (Option Binding)) (slot : ℕ) where
  abbrev before : Slotted D
  before = with_slots old slots

  -- If the slot has no binder, a step is refused with C8.
  pub absent_in : get_or slots slot None ≡ None → AdvancesIn facts before before slot (Err NoSuchBinder)
  absent_in none = record {
    step = λ flights flight on is. absurd (nobody flights flight on is);
    bounds = λ flights flight on is. absurd (nobody flights flight on is);
    any_moment = λ honest. at_rest (facts old.disk) (Mixture (facts old.disk)) (λ m mixture. mixture);
    unchanged = λ honest. record { now = refl; log = refl; stop = λ k content. (λ may. may, λ may. may) };
    stays = stays_at facts before;
    no_binder = (λ is. none, λ is. refl);
    absent = λ is. refl;
    present = λ some. absurd (some none);
    failed = λ failed. refl;
    reopen = λ some. absurd (some none);
    refusals = inl refl;
    answers = tt;
    calls = no_calls (facts old.disk);
  }
    where
      some_none : (flight : Flight) → ◌≡◌ {A = Option Flight} (Some flight) None → ⊥
      some_none flight e = cc

      nobody : (flights : List (Option Flight)) (flight : Flight) → AreOn facts before flights → get_or flights slot None ≡ Some flight → ⊥
      nobody flights flight on is = some_none flight (sym is ∙ no_flight_on facts old slots flights on slot none)

  module _ (b : Binding) (there : get_or slots slot None ≡ Some b) where
    inside : slot < length slots
    inside = there_is slots slot b there

    not_absent : get_or slots slot None ≡ None → ⊥
    not_absent none = none_is (sym there ∙ none)
      where
        none_is : ◌≡◌ {A = Option Binding} (Some b) None → ⊥
        none_is e = cc

    its_hold : (sector : ℕ) → held_in sector (get_or slots slot None) ≡ times sector (handles_of b)
    its_hold sector = ap (held_in sector) there

    -- if the binder in the slot is replaced by one with the same handles, each byte string is held as
    -- often as before
    held_as : (c : Binding) → handles_of c ≡ handles_of b → (sector : ℕ) → held_by (set slots slot (Some c)) sector ≡ held_by slots sector
    held_as c same sector =
        let its : times sector (handles_of c) ≡ times sector (handles_of b) = ap (times sector) same in
        omega (arith, held_set slots slot (Some c) sector inside, its_hold sector, its)

    -- if the binder in the slot is removed, each byte string is held less often by that binder's holds
    held_less : (sector : ℕ) → held_by (set slots slot None) sector + times sector (handles_of b) ≡ held_by slots sector
    held_less sector = omega (arith, held_set slots slot None sector inside, its_hold sector)

    -- The binder makes a step and stays in its slot.
    module _ (new : Opened D) (c : Binding) (result : Result Step Refusal) (advances : Advances facts old new b c result) where
      same_holders : (sector : ℕ) → holders_of new.held sector ≡ holders_of old.held sector
      same_holders sector = ap (λ held. holders_of held sector) advances.kept.2

      abbrev after : Slotted D
      after = with_slots new (set slots slot (Some c))

      pub stepped_held : IsHeld old slots → IsHeld new (set slots slot (Some c))
      stepped_held held sector = omega (arith, held sector, held_as c advances.handles sector, same_holders sector)

      stepped_stays : StaysAt facts before after
      stepped_stays = record {
        same = advances.same;
        kept = (advances.kept.0, advances.kept.1, advances.kept.3);
        holders = λ sector. omega (arith, held_as c advances.handles sector, same_holders sector);
        alone = λ alone sector. omega (arith, alone sector, held_as c advances.handles sector, same_holders sector);
      }

      moved : (flights : List (Option Flight)) → AreOn facts before flights → AreOn facts (with_slots new slots) flights
      moved flights on = are_on_moved facts old new slots flights advances.others on

      -- the flight of the binder in the slot is bounded
      bounded_in : (flights : List (Option Flight)) (flight : Flight) → AreOn facts before flights → get_or flights slot None ≡ Some flight → IsBounded flight
      bounded_in flights flight on its = advances.bounds flight (binder_on facts old slots flights on slot flight its b there)

      -- after a failed write or sync nothing changes
      failed_in_place : IsTrue old.failed → after ≡ before
      failed_in_place failed =
          let same = advances.failed failed in
          let put : set slots slot (Some c) ≡ slots = ap (λ k. set slots slot (Some k)) same.1 ∙ ap (λ o. set slots slot o) (sym there) ∙ set-get_or slots slot None in
          λ i. with_slots (same.0 i) (put i)

      -- if the step is answered with Going, the binder's flight is one step further
      pub going_in : result ≡ Ok Going → AdvancesIn facts before after slot (Ok Going)
      going_in is = record {
        step = λ flights flight on its.
            let step = subst (λ r. IsStep facts old new flight c r) is (advances.step flight (binder_on facts old slots flights on slot flight its b there)) in
            (step.0, are_on_set facts new slots flights (moved flights on) slot (Some c) (Some _) step.1, step.2);
        bounds = bounded_in;
        any_moment = advances.any_moment;
        unchanged = advances.unchanged;
        stays = stepped_stays;
        no_binder = (λ e. absurd cc, λ none. absurd (not_absent none));
        absent = λ none. absurd (not_absent none);
        present = λ some. (c, refl);
        failed = failed_in_place;
        reopen = λ some. (λ e. absurd cc, λ failed. absurd (going_reopen (sym is ∙ advances.reopen.1 failed)));
        refusals = tt;
        answers = tt;
        calls = advances.calls;
      }
        where
          going_reopen : ◌≡◌ {A = Result Step Refusal} (Ok Going) (Err Reopen) → ⊥
          going_reopen e = cc

      -- if the step is answered with S1, S2 or S11, the binder's flight is unchanged
      pub again_in : (e : Refusal) → result ≡ Err e → AdvancesIn facts before after slot (Err e)
      again_in e is =
          let may : IsStepRefusal facts old new e = subst (λ r. IfErr r (IsStepRefusal facts old new)) is advances.refusals in
          record {
            step = λ flights flight on its.
                let step = subst (λ r. IsStep facts old new flight c r) is (advances.step flight (binder_on facts old slots flights on slot flight its b there)) in
                (kept_on flights flight on its step.0, step.1, step.2);
            bounds = bounded_in;
            any_moment = advances.any_moment;
            unchanged = advances.unchanged;
            stays = stepped_stays;
            no_binder = (λ refused. absurd (not_refused e may (err_is NoSuchBinder refused)), λ none. absurd (not_absent none));
            absent = λ none. absurd (not_absent none);
            present = λ some. (c, refl);
            failed = failed_in_place;
            reopen = λ some. (λ refused. advances.reopen.0 (is ∙ ap (λ r. Err r) (err_is Reopen refused)), λ failed. sym is ∙ advances.reopen.1 failed);
            refusals = inr may;
            answers = tt;
            calls = advances.calls;
          }
        where
          err_is : (r : Refusal) → ◌≡◌ {A = Result Step Refusal} (Err e) (Err r) → e ≡ r
          err_is r refused = cc

          not_refused : (r : Refusal) → IsStepRefusal facts old new r → r ≡ NoSuchBinder → ⊥
          not_refused r may is = subst (λ k. IsStepRefusal facts old new k) is may

          set_its : (flights : List (Option Flight)) (flight : Flight) → get_or flights slot None ≡ Some flight → set flights slot (Some flight) ≡ flights
          set_its flights flight its = ap (λ o. set flights slot o) (sym its) ∙ set-get_or flights slot None

          kept_on : (flights : List (Option Flight)) (flight : Flight) → AreOn facts before flights → get_or flights slot None ≡ Some flight → Flies facts new c flight → AreOn facts after flights
          kept_on flights flight on its flies =
              subst (λ fs. AreOn facts after fs) (set_its flights flight its) (are_on_set facts new slots flights (moved flights on) slot (Some c) (Some flight) flies)

    -- The binder is ended, and its handles are still the same.
    module _ (mid new : Opened D) (c : Binding) (same : handles_of c ≡ handles_of b) (ends : Ends facts mid new c) where
      its_times : (sector : ℕ) → times sector (handles_of c) ≡ times sector (handles_of b)
      its_times sector = ap (times sector) same

      pub left_held : IsHeld mid slots → IsHeld new (set slots slot None)
      left_held held sector = omega (arith, held sector, held_less sector, ends.let_go.holders sector, its_times sector)

      -- the number of holders of a byte string decreases by the number of times that this binder held it
      pub left_holders : IsHeld mid slots → (sector : ℕ) → holders_of new.held sector + held_by slots sector ≡ holders_of mid.held sector + held_by (set slots slot None) sector
      left_holders held sector = omega (arith, held sector, held_less sector, ends.let_go.holders sector, its_times sector)

      pub left_alone : HoldAlone (with_slots mid slots) → HoldAlone (with_slots new (set slots slot None))
      left_alone alone sector = omega (arith, alone sector, held_less sector, ends.let_go.holders sector, its_times sector)

      -- the other binders still hold what they held
      still : IsHeld mid slots → (i : ℕ) (other : Binding) → get_or (set slots slot None) i None ≡ Some other → (k : ℕ)
          → k < length (handles_of other) → 0 < holders_of new.held (get_or (handles_of other) k 0)
      still held i other is k lt =
          let handle : ℕ = get_or (handles_of other) k 0 in
          let all : held_in handle (get_or (set slots slot None) i None) ≤ held_by (set slots slot None) handle =
          held_within (set slots slot None) i handle (there_is (set slots slot None) i other is) in
          let its : held_in handle (get_or (set slots slot None) i None) ≡ times handle (handles_of other) = ap (held_in handle) is in
          omega (arith, all, its, times_there (handles_of other) k lt, left_held held handle)

      pub left_on : IsHeld mid slots → (flights : List (Option Flight)) → AreOn facts (with_slots mid slots) flights → AreOn facts (with_slots new (set slots slot None)) (set flights slot None)
      left_on held flights on =
          are_on_left facts mid new (set slots slot None) (set flights slot None) (λ other flight i is flies. ends.others other flight (still held i other is) flies)
          (are_on_set facts mid slots flights on slot None None tt)

    -- The binder made its last step, and is ended.
    module _ (mid new : Opened D) (c : Binding) (answer : Reply) (held : IsHeld old slots) (advances : Advances facts old mid b c (Ok (Final answer))) (ends : Ends facts mid new c) where
      abbrev over : Slotted D
      over = with_slots new (set slots slot None)

      mid_held : IsHeld mid slots
      mid_held sector = omega (arith, held sector, ap (λ table. holders_of table sector) advances.kept.2)

      disk_is : new.disk ≡ mid.disk
      disk_is = ends.let_go.kept.0

      pub final_in : AdvancesIn facts before over slot (Ok (Final answer))
      final_in = record {
        step = λ flights flight on its.
            let step = advances.step flight (binder_on facts old slots flights on slot flight its b there) in
            (step.0, step.1, left_on mid new c advances.handles ends mid_held flights (are_on_moved facts old mid slots flights advances.others on), disk_is ∙ ap (λ (k : Opened D). k.disk) step.2);
        bounds = λ flights flight on its. advances.bounds flight (binder_on facts old slots flights on slot flight its b there);
        unchanged = λ honest. subst (λ disk. IsUnchanged (facts old.disk) (facts disk)) (sym disk_is) (advances.unchanged honest);
        any_moment = λ honest. subst (λ disk. LeavesOnly (facts old.disk) (facts disk) (Mixture (facts old.disk))) (sym disk_is) (advances.any_moment honest);
        stays = record {
          same = λ s at. ends.same s (advances.same s at);
          kept = (ends.let_go.kept.1 ∙ advances.kept.0, ends.let_go.kept.2 ∙ advances.kept.1, ends.let_go.kept.3 ∙ advances.kept.3);
          holders = λ sector. omega (arith, left_holders mid new c advances.handles ends mid_held sector, ap (λ table. holders_of table sector) advances.kept.2);
          alone = λ alone. left_alone mid new c advances.handles ends (λ sector. ap (λ table. holders_of table sector) advances.kept.2 ∙ alone sector);
        };
        no_binder = (λ e. absurd cc, λ none. absurd (not_absent none));
        absent = λ none. absurd (not_absent none);
        present = λ some. refl;
        failed = λ failed. absurd (final_reopen (advances.reopen.1 failed));
        reopen = λ some. (λ e. absurd cc, λ failed. absurd (final_reopen (advances.reopen.1 failed)));
        refusals = tt;
        answers = advances.answers;
        calls = subst (λ disk. AreCalls (facts old.disk) (facts disk)) (sym disk_is) advances.calls;
      }
        where
          final_reopen : ◌≡◌ {A = Result Step Refusal} (Ok (Final answer)) (Err Reopen) → ⊥
          final_reopen e = cc

    -- The binder is cancelled.
    module _ (new : Opened D) (held : IsHeld old slots) (ends : Ends facts old new b) where
      pub cancelled_in : CancelsIn facts before (with_slots new (set slots slot None)) slot Done
      cancelled_in = record {
        ok = left_on old new b refl ends held;
        stays = record {
          same = ends.same;
          kept = (ends.let_go.kept.1, ends.let_go.kept.2, ends.let_go.kept.3);
          holders = left_holders old new b refl ends held;
          alone = left_alone old new b refl ends;
        };
        disk = ends.let_go.kept.0;
        answers = inl refl;
        no_binder = (λ e. absurd cc, λ none. absurd (not_absent none));
        absent = λ none. absurd (not_absent none);
        slots = refl;
      }

  -- If the slot has no binder, a cancel is refused with C8.
  pub uncancelled_in : get_or slots slot None ≡ None → CancelsIn facts before before slot (Refused NoSuchBinder)
  uncancelled_in none = record {
    ok = λ flights on. are_on_none flights on;
    stays = stays_at facts before;
    disk = refl;
    answers = inr refl;
    no_binder = (λ e. none, λ e. refl);
    absent = λ none. refl;
    slots = sym (ap (λ o. set slots slot o) (sym none) ∙ set-get_or slots slot None);
  }
    where
      no_flight : (flights : List (Option Flight)) → AreOn facts before flights → get_or flights slot None ≡ None
      no_flight flights on = no_flight_on facts old slots flights on slot none

      same_flights : (flights : List (Option Flight)) → AreOn facts before flights → set flights slot None ≡ flights
      same_flights flights on = ap (λ o. set flights slot o) (sym (no_flight flights on)) ∙ set-get_or flights slot None

      are_on_none : (flights : List (Option Flight)) → AreOn facts before flights → AreOn facts before (set flights slot None)
      are_on_none flights on = subst (λ fs. AreOn facts before fs) (sym (same_flights flights on)) on
