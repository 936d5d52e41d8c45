-- Lemmas about events one after the other, and about the states that a stop leaves.
use Rattle.std.proofs.Common.{◌≡◌, List, [], ◌∷◌, ◌++◌, map, append-nil, append_assoc, IsTrue, ⊎_elim, sym, subst, ap}
use Rattle.sector_disk.specs.Disk.{DiskFacts, Mixture, LeavesOnly}
use Rattle.sector_disk.proofs.Moments.{at_rest}
use Rattle.store.specs.Opened.{Opened}
use Rattle.states.specs.State.{State}
use Rattle.requests.specs.Runs.{Steps, Run, last_of}
use Rattle.requests.specs.declared.reply.Reply.TheVariants.{Done, Listing, Bound, Refused}
use Rattle.registry.specs.Acknowledged.{Exchange, stepped}
use Rattle.registry.specs.Ran.{RunsThrough}
use Rattle.registry.proofs.RanSoFar.{RunsVia}
use Rattle.registry.proofs.Running.{runs_none, runs_turn, runs_idle, runs_through}
use Rattle.binders.specs.Events.{Happening, Happens, apply, begin, advance, cancel}
use Rattle.binders.specs.EventsRan.{EventStep, EventsRan, exchange_of, exchanges}
use Rattle.binders.specs.Slotted.{Slotted}
use Rattle.binders.specs.Stepped.{StaysAt, AdvancesIn}
use Rattle.binders.specs.declared.event.EventReply.{EventReply}
use Rattle.binders.specs.declared.event.EventReply.TheVariants.{Replied, Slot, Going}

module _ {D : Type 0} (facts : D → DiskFacts) where
  module _ (old mid new : Slotted D) (s : State) (xs : List Exchange) (registries : List (Opened D)) (so_far : RunsVia facts old.registry registries mid.registry s xs) where
    abbrev GoesOn : Exchange → Type 0
    GoesOn x = RunsVia facts old.registry (registries ++ new.registry ∷ []) new.registry s (xs ++ x ∷ [])

    still_failed : StaysAt facts mid new → IsTrue mid.registry.failed → IsTrue new.registry.failed
    still_failed stays failed = subst IsTrue (sym stays.kept.2) failed

    -- a run stays a run if an event that makes no call of the disk follows
    goes_unread : StaysAt facts mid new → new.registry.disk ≡ mid.registry.disk → GoesOn stepped
    goes_unread stays same = runs_idle facts old.registry mid.registry new.registry s xs registries so_far stays.same
        (λ honest. subst (λ (d : D). LeavesOnly (facts mid.registry.disk) (facts d) (Mixture (facts mid.registry.disk))) (sym same)
        (at_rest (facts mid.registry.disk) (Mixture (facts mid.registry.disk)) (λ m mixture. mixture)))
        (λ failed. (still_failed stays failed, same))

    goes_advanced : (slot : _) (result : _) → AdvancesIn facts mid new slot result → GoesOn stepped
    goes_advanced slot result advances = runs_idle facts old.registry mid.registry new.registry s xs registries so_far advances.stays.same advances.any_moment
        (λ failed. (still_failed advances.stays failed, ap (λ (b : Slotted D). b.registry.disk) (advances.failed failed)))

    -- a run stays a run if one more event follows
    goes_on : (h : Happening) (r : EventReply) → Happens facts mid new h r → GoesOn (exchange_of h r)
    goes_on (apply request) (Replied answer) happens =
        runs_turn facts old.registry mid.registry new.registry s xs registries so_far request answer happens.applied happens.all_calls
        happens.on_any_disk.did
    goes_on (begin program base) (Slot slot) happens = goes_unread happens.stays happens.disk
    goes_on (begin program base) (Replied (Refused refusal)) happens = goes_unread happens.stays happens.disk
    goes_on (advance slot) Going happens = goes_advanced slot _ happens
    goes_on (advance slot) (Replied answer) happens = ⊎_elim (λ final. goes_advanced slot _ final) (λ refused. goes_advanced slot _ refused.2) happens
    goes_on (cancel slot) (Replied answer) happens = goes_unread happens.stays happens.disk
    goes_on (apply request) (Slot slot) happens = absurd happens
    goes_on (apply request) Going happens = absurd happens
    goes_on (begin program base) Going happens = absurd happens
    goes_on (begin program base) (Replied Done) happens = absurd happens
    goes_on (begin program base) (Replied (Listing listing)) happens = absurd happens
    goes_on (begin program base) (Replied (Bound image)) happens = absurd happens
    goes_on (advance slot) (Slot other) happens = absurd happens
    goes_on (cancel slot) (Slot other) happens = absurd happens
    goes_on (cancel slot) Going happens = absurd happens

  -- a run stays a run if more events follow
  runs_events : (old mid : Slotted D) (s : State) (xs : List Exchange) (registries : List (Opened D)) → RunsVia facts old.registry registries mid.registry s xs
      → (hs : List Happening) (rs : List EventReply) (passed : List (Slotted D)) → Steps (EventStep facts) mid hs rs passed
      → RunsVia facts old.registry (registries ++ map (λ (b : Slotted D). b.registry) passed) (last_of mid passed).registry s (xs ++ exchanges hs rs)
  runs_events old mid s xs registries so_far [] [] [] h =
      subst (λ (l : List (Opened D)). RunsVia facts old.registry l mid.registry s (xs ++ [])) (sym (append-nil registries))
      (subst (λ (l : List Exchange). RunsVia facts old.registry registries mid.registry s l) (sym (append-nil xs)) so_far)
  runs_events old mid s xs registries so_far (x ∷ hs) (r ∷ rs) (b ∷ passed) h =
      let next = goes_on old mid b s xs registries so_far x r h.0.happens in
      let all = runs_events old b s (xs ++ exchange_of x r ∷ []) (registries ++ b.registry ∷ []) next hs rs passed h.1 in
      subst (λ (l : List (Opened D)). RunsVia facts old.registry l (last_of b passed).registry s (xs ++ exchange_of x r ∷ exchanges hs rs))
      (append_assoc registries (b.registry ∷ []) (map (λ (k : Slotted D). k.registry) passed))
      (subst (λ (l : List Exchange). RunsVia facts old.registry ((registries ++ b.registry ∷ []) ++ map (λ (k : Slotted D). k.registry) passed)
      (last_of b passed).registry s l) (append_assoc xs (exchange_of x r ∷ []) (exchanges hs rs)) all)
  runs_events old mid s xs registries so_far [] [] (b ∷ passed) h = absurd h
  runs_events old mid s xs registries so_far [] (r ∷ rs) passed h = absurd h
  runs_events old mid s xs registries so_far (x ∷ hs) [] passed h = absurd h
  runs_events old mid s xs registries so_far (x ∷ hs) (r ∷ rs) [] h = absurd h

  -- if events happened one after the other, `EventsRan` holds
  pub events_ran : (old new : Slotted D) (hs : List Happening) (rs : List EventReply) → Run (EventStep facts) old hs rs new → EventsRan facts old new hs rs
  events_ran old new hs rs run = record {
    passed = run.0;
    steps = run.1;
    last = run.2;
    runs = λ s at. subst (λ (k : Slotted D). RunsThrough facts old.registry (map (λ (b : Slotted D). b.registry) run.0) k.registry s (exchanges hs rs)) (sym run.2)
        (runs_through facts old.registry (last_of old run.0).registry s (exchanges hs rs) (map (λ (b : Slotted D). b.registry) run.0)
        (runs_events old old s [] [] (runs_none facts old.registry s at) hs rs run.0 run.1));
  }
