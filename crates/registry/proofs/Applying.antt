-- What a command does to a registry on a disk, given what the store did.
use Rattle.std.proofs.Common.{◌≡◌, ◌≢◌, ℕ, ◌⊎◌, inl, inr, ⊎_elim, ◌<◌, List, Option, Some, None, Result, Ok, Err, IsTrue, IsFalse, refl, sym, ap, subst, ◌∙◌}
use Rattle.std.specs.Prelude.{OnOk}
use Rattle.std.specs.Option.{option_map}
use Rattle.std.proofs.lemmas.Bool.{false≢true}
use Rattle.sector_disk.specs.Disk.{Sector, DiskFacts, LeavesOnly}
use Rattle.sector_disk.proofs.Moments.{at_rest, weaken}
use Rattle.store.specs.Changed.{Changed}
use Rattle.store.specs.Opened.{Opened, IsAt}
use Rattle.store.specs.Stands as sectors
use Rattle.store.specs.Step.{IsAnswer, IsExactAnswer, IsRefusalOfPutNew}
use Rattle.store.specs.declared.refusal.StoreRefusal.{StoreRefusal}
use Rattle.store.specs.declared.refusal.StoreRefusal.TheVariants as e
use Rattle.states.specs.State.{State}
use Rattle.requests.specs.Request.{Request, install, replace, remove, set_preloads, bind, list}
use Rattle.requests.specs.Phase.{Phase}
use Rattle.requests.specs.Step.{Step, accepted, answer_of, refusal_at, reply_of, IsReply, TakesMemory, Leads, LacksWrite, LeavesFailed}
use Rattle.requests.specs.declared.refusal.Refusal.{Refusal}
use Rattle.requests.specs.declared.refusal.Refusal.TheVariants.{Object, AlreadyInstalled, NotInstalled, InPreloads, RepeatedPreload, TooManyPreloads, NoSlot, NoSuchBinder, Bind}
use Rattle.requests.specs.declared.refusal.Refusal.TheVariants.{Device, Reopen, Damaged, Full, Fragmented, TooMany, GenerationEnd, OutOfMemory}
use Rattle.requests.specs.declared.reply.Reply.{Reply}
use Rattle.requests.specs.declared.reply.Reply.TheVariants.{Done, Refused}
use Rattle.requests.specs.declared.reply.Reply.TheVariants as reply
use Rattle.registry.specs.Phase.{phase_of}
use Rattle.registry.specs.Applied.{MayLeaveBy}
use Rattle.registry.specs.Untested.{AppliesUntested, UntestedStep}
use Rattle.registry.specs.Binding.{IfBound}
use Rattle.registry.specs.Calls.{IfAccepted}
use Rattle.registry.specs.Refusals.{refusal_of}
use Rattle.registry.specs.inside.Reading.{in_words}

pub leads_same : (p : Phase) → Leads p p.state p
leads_same p = record { sectors = refl; failed = refl; state = refl }

-- the commands that change the state
abbrev pub IsChange : Request → Type 0
IsChange (install bytes) = Unit {0}
IsChange (replace bytes) = Unit {0}
IsChange (remove name) = Unit {0}
IsChange (set_preloads names) = Unit {0}
IsChange (bind program base) = ⊥
IsChange list = ⊥

is_done : (q : Request) → IsChange q → (s : State) → IsReply s q Done
is_done (install bytes) is s = refl
is_done (replace bytes) is s = refl
is_done (remove name) is s = refl
is_done (set_preloads names) is s = refl
is_done (bind program base) is s = absurd is
is_done list is s = absurd is

broken : (q : Request) → IsChange q → (p p' : Phase) → LacksWrite p q p' → LeavesFailed p q p'
broken (install bytes) is p p' breaks = breaks
broken (replace bytes) is p p' breaks = breaks
broken (remove name) is p p' breaks = breaks
broken (set_preloads names) is p p' breaks = breaks
broken (bind program base) is p p' breaks = absurd is
broken list is p p' breaks = absurd is

-- the step table answers a change, whether or not the files are libraries
pub change_step : (q : Request) → IsChange q → (p p' : Phase) (r : Reply) → Step p q r p' → UntestedStep p q r p'
change_step (install bytes) is p p' r step = step
change_step (replace bytes) is p p' r step = step
change_step (remove name) is p p' r step = step
change_step (set_preloads names) is p p' r step = step
change_step (bind program base) is p p' r step = absurd is
change_step list is p p' r step = absurd is

-- a change that one of its tests refuses leaves everything unchanged
pub refused_step : (p : Phase) (q : Request) → (refusal : Refusal) → refusal ≢ Device → refusal ≢ Reopen → refusal ≢ OutOfMemory → IsFalse p.failed → refusal_at p q ≡ Some refusal
    → Step p q (Refused refusal) p
refused_step p q (Object why) device reopen memory usable is = (usable, is, leads_same p)
refused_step p q (Bind why) device reopen memory usable is = (usable, is, leads_same p)
refused_step p q AlreadyInstalled device reopen memory usable is = (usable, is, leads_same p)
refused_step p q NotInstalled device reopen memory usable is = (usable, is, leads_same p)
refused_step p q InPreloads device reopen memory usable is = (usable, is, leads_same p)
refused_step p q RepeatedPreload device reopen memory usable is = (usable, is, leads_same p)
refused_step p q TooManyPreloads device reopen memory usable is = (usable, is, leads_same p)
refused_step p q NoSlot device reopen memory usable is = (usable, is, leads_same p)
refused_step p q NoSuchBinder device reopen memory usable is = (usable, is, leads_same p)
refused_step p q Damaged device reopen memory usable is = (usable, is, leads_same p)
refused_step p q Full device reopen memory usable is = (usable, is, leads_same p)
refused_step p q Fragmented device reopen memory usable is = (usable, is, leads_same p)
refused_step p q TooMany device reopen memory usable is = (usable, is, leads_same p)
refused_step p q GenerationEnd device reopen memory usable is = (usable, is, leads_same p)
refused_step p q Device device reopen memory usable is = absurd (device refl)
refused_step p q Reopen device reopen memory usable is = absurd (reopen refl)
refused_step p q OutOfMemory device reopen memory usable is = absurd (memory refl)

-- an answer of a call that allocates no memory is also an answer of a call that may allocate memory
pub exact_answer : (first : Option StoreRefusal) (result : Result (Unit {0}) StoreRefusal) → IsExactAnswer first result → IsAnswer first result
exact_answer None (Ok done) is = is
exact_answer None (Err refusal) is = inl is
exact_answer (Some first) (Ok done) is = absurd is
exact_answer (Some e.Full) (Err refusal) is = inl is
exact_answer (Some e.Fragmented) (Err refusal) is = inl is
exact_answer (Some e.Device) (Err refusal) is = is
exact_answer (Some e.Reopen) (Err refusal) is = is
exact_answer (Some e.NotFormatted) (Err refusal) is = is
exact_answer (Some e.AlreadyFormatted) (Err refusal) is = is
exact_answer (Some e.Damaged) (Err refusal) is = is
exact_answer (Some e.BadGeometry) (Err refusal) is = is
exact_answer (Some e.TooMany) (Err refusal) is = is
exact_answer (Some e.GenerationEnd) (Err refusal) is = is
exact_answer (Some e.OutOfMemory) (Err refusal) is = is
exact_answer (Some e.OldFormat) (Err refusal) is = is

-- if a change was made, no test refused it
pub none_first : (first : Option StoreRefusal) (done : Unit {0}) → IsAnswer first (Ok done) → first ≡ None
none_first None done is = refl
none_first (Some first) done is = absurd is

-- a refusal other than S1 and S11 is the first refusal that applies
pub is_first : (first : Option StoreRefusal) (refusal : StoreRefusal) → IsAnswer first (Err refusal) → refusal ≢ e.Device → refusal ≢ e.OutOfMemory → first ≡ Some refusal
is_first None refusal is other ample = absurd (⊎_elim other ample is)
is_first (Some e.Full) refusal is other ample = ⊎_elim (λ same. ap Some (sym same)) (λ memory. absurd (ample memory)) is
is_first (Some e.Fragmented) refusal is other ample = ⊎_elim (λ same. ap Some (sym same)) (λ memory. absurd (ample memory)) is
is_first (Some e.Device) refusal is other ample = absurd (other is)
is_first (Some e.OutOfMemory) refusal is other ample = absurd (ample is)
is_first (Some e.Reopen) refusal is other ample = ap Some (sym is)
is_first (Some e.NotFormatted) refusal is other ample = ap Some (sym is)
is_first (Some e.AlreadyFormatted) refusal is other ample = ap Some (sym is)
is_first (Some e.Damaged) refusal is other ample = ap Some (sym is)
is_first (Some e.BadGeometry) refusal is other ample = ap Some (sym is)
is_first (Some e.TooMany) refusal is other ample = ap Some (sym is)
is_first (Some e.GenerationEnd) refusal is other ample = ap Some (sym is)
is_first (Some e.OldFormat) refusal is other ample = ap Some (sym is)

-- if a call failed, no test had refused before
pub none_before : (first : Option StoreRefusal) → IsAnswer first (Err e.Device) → first ≢ Some e.Device → first ≡ None
none_before None is tests = refl
none_before (Some e.Full) is tests = absurd (⊎_elim (λ same. cc) (λ memory. cc) is)
none_before (Some e.Fragmented) is tests = absurd (⊎_elim (λ same. cc) (λ memory. cc) is)
none_before (Some e.Device) is tests = absurd (tests refl)
none_before (Some e.OutOfMemory) is tests = absurd cc
none_before (Some e.Reopen) is tests = absurd cc
none_before (Some e.NotFormatted) is tests = absurd cc
none_before (Some e.AlreadyFormatted) is tests = absurd cc
none_before (Some e.Damaged) is tests = absurd cc
none_before (Some e.BadGeometry) is tests = absurd cc
none_before (Some e.TooMany) is tests = absurd cc
none_before (Some e.GenerationEnd) is tests = absurd cc
none_before (Some e.OldFormat) is tests = absurd cc

module _ {D : Type 0} (facts : D → DiskFacts) (old : Opened D) (s : State) (at : IsAt facts old s) (q : Request) where
  abbrev before : Phase
  before = phase_of facts old s

  -- If no call was made, a step of the step table is a command applied to an unchanged registry.
  pub untouched : (answer : Reply) → UntestedStep (phase_of facts old s) q answer (phase_of facts old s) → AppliesUntested facts old old s q answer
  untouched answer step = (
    s,
    record {
      step = step;
      any_moment = at_rest (facts old.disk) (MayLeaveBy sectors.Stands before q answer s) (λ m mixture. inl (old.root, old.entries, at.stands m mixture));
      kept = inl at;
    },
  )

  -- A change was passed to the store, which makes the last tests of it. `first` is the store's first refusal.
  module _ (new : Opened D) (first : Option StoreRefusal) (change : IsChange q) (tested : refusal_at (phase_of facts old s) q ≡ option_map refusal_of first)
      (leaves : LeavesOnly (facts old.disk) (facts new.disk) (λ m. sectors.Stands m s ⊎ sectors.Stands m (accepted s q))) where
    within : (m : List Sector) (answer : Reply) (s' : State) → (sectors.Stands m (accepted s q) → MayLeaveBy sectors.Stands before q answer s' m)
        → sectors.Stands m s ⊎ sectors.Stands m (accepted s q) → MayLeaveBy sectors.Stands before q answer s' m
    within m answer s' new_stands h = ⊎_elim inl new_stands h

    -- if the store made the change, the command was applied and answered with Done
    change_done : (done : Unit {0}) → IsAnswer first (Ok done) → IsFalse new.failed → IsAt facts new (accepted s q) → AppliesUntested facts old new s q Done
    change_done done answer usable after = (
      accepted s q,
      record {
        step = change_step q change before (phase_of facts new (accepted s q)) Done (
          at.usable,
          tested ∙ ap (option_map refusal_of) (none_first first done answer),
          is_done q change s,
          record { sectors = leaves.past.sectors; failed = usable ∙ sym at.usable; state = refl },
        );
        any_moment = weaken (λ m. sectors.Stands m s ⊎ sectors.Stands m (accepted s q)) (MayLeaveBy sectors.Stands before q Done (accepted s q))
            (λ m. within m Done (accepted s q) (λ stands. inr (inl stands))) leaves;
        kept = inl after;
      },
    )

    -- if a call of the store failed, the command was applied and answered with S1
    change_broken : IsAnswer first (Err e.Device) → first ≢ Some e.Device → (facts old.disk).failures < (facts new.disk).failures → IsTrue new.failed
        → AppliesUntested facts old new s q (Refused Device)
    change_broken answer tests risen failed =
        let untested : refusal_at before q ≡ None = tested ∙ ap (option_map refusal_of) (none_before first answer tests) in (
          s,
          record {
            step = change_step q change before (phase_of facts new s) (Refused Device) (
              at.usable,
              broken q change before (phase_of facts new s) (record { sectors = leaves.past.sectors; risen = risen; failed = failed; untested = untested; state = inl refl }),
            );
            any_moment = weaken (λ m. sectors.Stands m s ⊎ sectors.Stands m (accepted s q)) (MayLeaveBy sectors.Stands before q (Refused Device) s)
                (λ m. within m (Refused Device) s (λ stands. inr (inr (refl, untested, stands)))) leaves;
            kept = inr (failed, refl);
          },
        )

    -- if the store refused the change, the command was applied and answered with this refusal
    change_refused : (refusal : StoreRefusal) → IsAnswer first (Err refusal) → first ≢ Some e.Device → refusal ≢ e.Reopen → IsRefusalOfPutNew refusal
        → (refusal ≡ e.Device → ((facts old.disk).failures < (facts new.disk).failures) × IsTrue new.failed) → (refusal ≢ e.Device → new ≡ old) → (refusal ≡ e.OutOfMemory → TakesMemory q)
        → AppliesUntested facts old new s q (Refused (refusal_of refusal))
    change_refused e.Device answer tests usable may device same memory = change_broken answer tests (device refl).0 (device refl).1
    change_refused e.OutOfMemory answer tests usable may device same memory =
        subst (λ r. AppliesUntested facts old r s q (Refused OutOfMemory)) (sym (same (λ is. cc)))
        (untouched (Refused OutOfMemory) (change_step q change before before (Refused OutOfMemory) (at.usable, memory refl, leads_same before)))
    change_refused e.Full answer tests usable may device same memory =
        subst (λ r. AppliesUntested facts old r s q (Refused Full)) (sym (same (λ is. cc)))
        (untouched (Refused Full) (change_step q change before before (Refused Full)
        (at.usable, tested ∙ ap (option_map refusal_of) (is_first first e.Full answer (λ is. cc) (λ is. cc)), leads_same before)))
    change_refused e.Fragmented answer tests usable may device same memory =
        subst (λ r. AppliesUntested facts old r s q (Refused Fragmented)) (sym (same (λ is. cc)))
        (untouched (Refused Fragmented) (change_step q change before before (Refused Fragmented)
        (at.usable, tested ∙ ap (option_map refusal_of) (is_first first e.Fragmented answer (λ is. cc) (λ is. cc)), leads_same before)))
    change_refused e.TooMany answer tests usable may device same memory =
        subst (λ r. AppliesUntested facts old r s q (Refused TooMany)) (sym (same (λ is. cc)))
        (untouched (Refused TooMany) (change_step q change before before (Refused TooMany)
        (at.usable, tested ∙ ap (option_map refusal_of) (is_first first e.TooMany answer (λ is. cc) (λ is. cc)), leads_same before)))
    change_refused e.GenerationEnd answer tests usable may device same memory =
        subst (λ r. AppliesUntested facts old r s q (Refused GenerationEnd)) (sym (same (λ is. cc)))
        (untouched (Refused GenerationEnd) (change_step q change before before (Refused GenerationEnd)
        (at.usable, tested ∙ ap (option_map refusal_of) (is_first first e.GenerationEnd answer (λ is. cc) (λ is. cc)), leads_same before)))
    change_refused e.Reopen answer tests usable may device same memory = absurd (usable refl)
    change_refused e.NotFormatted answer tests usable may device same memory = absurd may
    change_refused e.AlreadyFormatted answer tests usable may device same memory = absurd may
    change_refused e.Damaged answer tests usable may device same memory = absurd may
    change_refused e.BadGeometry answer tests usable may device same memory = absurd may
    change_refused e.OldFormat answer tests usable may device same memory = absurd may

    -- whatever the store answered, the command was applied
    change_answered : {calls : ℕ} {Refuses : StoreRefusal → Type 0} (answer : Result (Unit {0}) StoreRefusal) → IsAnswer first answer → first ≢ Some e.Device
        → Changed facts e.Device e.Reopen old new calls Refuses answer → ((r : StoreRefusal) → Refuses r → IsRefusalOfPutNew r)
        → (answer ≡ Err e.OutOfMemory → TakesMemory q) → OnOk answer (IsAt facts new (accepted s q)) → AppliesUntested facts old new s q (answer_of (in_words answer))
    change_answered (Ok done) is tests changed may memory after = change_done done is changed.usable after
    change_answered (Err r) is tests changed may memory after =
        change_refused r is tests (λ reopens. false≢true (sym at.usable ∙ changed.reopen.0 (ap Err reopens))) (may r changed.refusals) changed.device changed.same
        (λ lacks. memory (ap Err lacks))

-- A change was passed to the store, which makes the last tests of it. `first` is the store's first
-- refusal, and t is the state after the change.
pub store_changed : {D : Type 0} (facts : D → DiskFacts) (old new : Opened D) (s : State) → IsAt facts old s → (q : Request) → IsChange q → (first : Option StoreRefusal)
    → refusal_at (phase_of facts old s) q ≡ option_map refusal_of first → first ≢ Some e.Device → (t : State) → t ≡ accepted s q
    → LeavesOnly (facts old.disk) (facts new.disk) (λ m. sectors.Stands m s ⊎ sectors.Stands m t)
    → {calls : ℕ} {Refuses : StoreRefusal → Type 0} (answer : Result (Unit {0}) StoreRefusal) → IsAnswer first answer → Changed facts e.Device e.Reopen old new calls Refuses answer
    → ((r : StoreRefusal) → Refuses r → IsRefusalOfPutNew r) → (answer ≡ Err e.OutOfMemory → TakesMemory q) → OnOk answer (IsAt facts new t)
    → AppliesUntested facts old new s q (answer_of (in_words answer))
store_changed facts old new s at q change first tested tests t leads leaves answer is changed may memory after =
    change_answered facts old s at q new first change tested (subst (λ u. LeavesOnly (facts old.disk) (facts new.disk) (λ m. sectors.Stands m s ⊎ sectors.Stands m u)) leads leaves)
    answer is tests changed may memory (subst (λ u. OnOk answer (IsAt facts new u)) leads after)

-- an applied command may be replaced by an equal command with an equal answer
pub applies_as : {D : Type 0} (facts : D → DiskFacts) (old new : Opened D) (s : State) {q q' : Request} {r r' : Reply} → q' ≡ q → r' ≡ r
    → AppliesUntested facts old new s q r → AppliesUntested facts old new s q' r'
applies_as facts old new s {q = q} {r' = r'} asked told applies = subst (λ x. AppliesUntested facts old new s x r') (sym asked) (subst (λ y. AppliesUntested facts old new s q y) (sym told) applies)

-- a fact that holds if a bind's answer is an image holds if the bind is accepted
pub bound_alone : (p p' : Phase) (program : List ℕ) (base : ℕ) (r : Reply) (P : Type 0) → UntestedStep p (bind program base) r p' → IfBound r P → IfAccepted r P
bound_alone p p' program base (Refused refusal) P step h = tt
bound_alone p p' program base (reply.Bound image) P step h = h
bound_alone p p' program base Done P step h = absurd (let is : Done ≡ reply_of p.state (bind program base) = step.0.2 in cc)
bound_alone p p' program base (reply.Listing listing) P step h = absurd (let is : reply.Listing listing ≡ reply_of p.state (bind program base) = step.0.2 in cc)
