-- What a command of an update does to its draft, as it follows from the store's answer.
use Rattle.std.proofs.Common.{◌≡◌, ◌≢◌, ◌↔◌, ◌-◌, ℕ, inl, inr, List, Option, Some, None, Result, Ok, Err, IsTrue, IsFalse, true, false, refl, sym, ap, subst, ◌∙◌}
use Rattle.std.specs.Prelude.{IfErr, OnErr, OnOk}
use Rattle.std.specs.Option.{option_map}
use Rattle.std.proofs.lemmas.Bool.{false≢true}
use Rattle.sector_disk.specs.Disk.{DiskFacts}
use Rattle.sector_disk.proofs.Moments.{at_rest}
use Rattle.hash_check.specs.FileRefusal.{ReadNeedsMemory}
use Rattle.states.specs.Changes.{with_bytes, with_new}
use Rattle.states.specs.State.{State, has_name, names_of}
use Rattle.store.specs.Draft.{Drafted, IsDraftedAt, IsLine, IsSameDraft, StaysBeside, beside, drafted, longest_drafted, room_drafted, touched_preloads}
use Rattle.store.specs.Stands.{Stands}
use Rattle.store.specs.Step.{IsAnswer, IsExactAnswer, IsRefusalOfPutNew, IsRefusalOfPutOver, refusal_of_new, refusal_of_put}
use Rattle.store.specs.declared.draft.Touched.{Touched}
use Rattle.store.specs.declared.draft.Touched.TheVariants.{Nothing, Preloads, List as Listed}
use Rattle.store.specs.declared.refusal.StoreRefusal.{StoreRefusal}
use Rattle.store.specs.declared.refusal.StoreRefusal.TheVariants as e
use Rattle.requests.specs.Library.{library_refusal, name_of}
use Rattle.requests.specs.Phase.{Phase}
use Rattle.requests.specs.Reading.{IsLibraryRefusal}
use Rattle.requests.specs.Request.{Request, install, replace, remove, set_preloads, bind, list}
use Rattle.requests.specs.Step.{Step, TakesMemory, accepted, answer_of, refusal_at}
use Rattle.requests.specs.declared.refusal.Refusal.{Refusal}
use Rattle.requests.specs.declared.refusal.Refusal.TheVariants.{Object, AlreadyInstalled, NotInstalled, InPreloads, RepeatedPreload, TooManyPreloads, NoSlot, NoSuchBinder, Bind}
use Rattle.requests.specs.declared.refusal.Refusal.TheVariants.{Device, Reopen, Damaged, Full, Fragmented, TooMany, GenerationEnd, OutOfMemory}
use Rattle.requests.specs.declared.reply.Reply.{Reply}
use Rattle.requests.specs.declared.reply.Reply.TheVariants.{Bound, Done, Listing, Refused}
use Rattle.registry.specs.Answered.{IsAnswerTo}
use Rattle.registry.specs.Drafting.{AnsweredDraft, AppliesDraft, DraftStep, LeavesDraft, PlanStep, draft_phase}
use Rattle.registry.specs.Refusals.{refusal_of}
use Rattle.registry.specs.inside.Drafting.{IsPlanned}
use Rattle.registry.specs.inside.Reading.{in_words}
use Rattle.registry.proofs.Applying.{IsChange, exact_answer, is_first, leads_same, none_before, none_first}
use Rattle.registry.proofs.Changed.{changed_in_words, changed_none, changed_refused, changed_reopen, failed_call, left_failed, refused_reopen}
use Rattle.registry.proofs.Keeping.{keeps_held_same}
use Rattle.registry.proofs.Puts.{install_refusal, is_lacking, is_there, no_failed_new, no_failed_put, replace_refusal}
use Rattle.registry.proofs.Putting.{file_first, over_is_new, put_step}

-- a step that plans a change is a step of an update, whatever the change is
pub draft_step : (q : Request) → IsChange q → (p p' : Phase) (r : Reply) → PlanStep p q r p' → DraftStep p q r p'
draft_step (install bytes) is p p' r step = step
draft_step (replace bytes) is p p' r step = step
draft_step (remove name) is p p' r step = step
draft_step (set_preloads names) is p p' r step = step
draft_step (bind program base) is p p' r step = absurd is
draft_step list is p p' r step = absurd is

-- a refusal of the step table, except S1, is a refusal of a plan
pub plan_refusal : (p p' : Phase) (q : Request) (refusal : Refusal) → refusal ≢ Device → Step p q (Refused refusal) p' → PlanStep p q (Refused refusal) p'
plan_refusal p p' q (Object why) other step = step
plan_refusal p p' q (Bind why) other step = step
plan_refusal p p' q AlreadyInstalled other step = step
plan_refusal p p' q NotInstalled other step = step
plan_refusal p p' q InPreloads other step = step
plan_refusal p p' q RepeatedPreload other step = step
plan_refusal p p' q TooManyPreloads other step = step
plan_refusal p p' q NoSlot other step = step
plan_refusal p p' q NoSuchBinder other step = step
plan_refusal p p' q Reopen other step = step
plan_refusal p p' q Damaged other step = step
plan_refusal p p' q Full other step = step
plan_refusal p p' q Fragmented other step = step
plan_refusal p p' q TooMany other step = step
plan_refusal p p' q GenerationEnd other step = step
plan_refusal p p' q OutOfMemory other step = step
plan_refusal p p' q Device other step = absurd (other refl)

-- a draft is unchanged if its store and its own fields are unchanged
pub same_whole : {D : Type 0} {old new : Drafted D} → new.store ≡ old.store → IsSameDraft old new → new ≡ old
same_whole store draft = λ i. record { store = store i; entries = draft.entries i; preloads = draft.preloads i; touched = draft.touched i }

module _ {D : Type 0} (facts : D → DiskFacts) {old : Drafted D} {s d : State} (at : IsDraftedAt facts old s d) (q : Request) where
  abbrev before : Phase
  before = draft_phase facts old d

  -- If no call was made, a step of an update is a command applied to an unchanged draft.
  pub draft_stays : (answer : Reply) → DraftStep before q answer before → AppliesDraft facts old old s d q answer
  draft_stays answer step = (
    d,
    record {
      step = step;
      any_moment = at_rest (facts old.store.disk) (λ m. Stands m s) (λ m mixture. (old.store.root, old.store.entries, at.stands.stands m mixture));
      kept = inl at;
    },
  )

  -- a refusal by the store's tests is the first refusal in the step table
  tested_by : (first : Option StoreRefusal) → refusal_at before q ≡ option_map refusal_of first → (refusal : StoreRefusal) → IsAnswer first (Err refusal)
      → refusal ≢ e.Device → refusal ≢ e.OutOfMemory → refusal_at before q ≡ Some (refusal_of refusal)
  tested_by first tested refusal is other ample = tested ∙ ap (option_map refusal_of) (is_first first refusal is other ample)

  -- A change was passed to the store, which makes the last tests of it. `first` is the store's first refusal.
  module _ {new : Drafted D} {most : ℕ} {Refuses : StoreRefusal → Type 0} (change : IsChange q) (first : Option StoreRefusal) (tested : refusal_at before q ≡ option_map refusal_of first) where
    -- if the store planned the change, the command was applied and answered with Done
    plan_done : (done : Unit {0}) → IsAnswer first (Ok done) → IsLine facts old new most Refuses (Ok done) → IsDraftedAt facts new s (drafted d (accepted d q)) → AppliesDraft facts old new s d q Done
    plan_done done is line after = (
      drafted d (accepted d q),
      record {
        step = draft_step q change before (draft_phase facts new (drafted d (accepted d q))) Done (
          at.stands.usable,
          tested ∙ ap (option_map refusal_of) (none_first first done is),
          refl,
          record { sectors = (line.beside.any_moment s at.stands).past.sectors; failed = line.changed.usable ∙ sym at.stands.usable; state = refl },
        );
        any_moment = line.beside.any_moment s at.stands;
        kept = inl after;
      },
    )

    -- if a write failed, the command was applied and answered with S1
    plan_lost : IsAnswer first (Err e.Device) → first ≢ Some e.Device → IsLine facts old new most Refuses (Err e.Device) → AppliesDraft facts old new s d q (Refused Device)
    plan_lost is tests line = (
      d,
      record {
        step = draft_step q change before (draft_phase facts new d) (Refused Device) (
          at.stands.usable,
          record {
            sectors = (line.beside.any_moment s at.stands).past.sectors;
            risen = (line.changed.device refl).0;
            failed = (line.changed.device refl).1;
            untested = tested ∙ ap (option_map refusal_of) (none_before first is tests);
            state = refl;
          },
        );
        any_moment = line.beside.any_moment s at.stands;
        kept = inr ((line.changed.device refl).1, refl);
      },
    )

    left : (refusal : StoreRefusal) → IsLine facts old new most Refuses (Err refusal) → refusal ≢ e.Device → (answer : Reply) → PlanStep before q answer before → AppliesDraft facts old new s d q answer
    left refusal line other answer step =
        subst (λ u. AppliesDraft facts old u s d q answer) (sym (same_whole (line.changed.same other) line.refused)) (draft_stays answer (draft_step q change before before answer step))

    -- if the store refused the change, the command was applied and answered with this refusal
    plan_refused : (refusal : StoreRefusal) → IsAnswer first (Err refusal) → first ≢ Some e.Device → refusal ≢ e.Reopen → IsRefusalOfPutNew refusal → (refusal ≡ e.OutOfMemory → TakesMemory q)
        → IsLine facts old new most Refuses (Err refusal) → AppliesDraft facts old new s d q (Refused (refusal_of refusal))
    plan_refused e.Device is tests usable may memory line = plan_lost is tests line
    plan_refused e.OutOfMemory is tests usable may memory line = left e.OutOfMemory line (λ is. cc) (Refused OutOfMemory) (at.stands.usable, memory refl, leads_same before)
    plan_refused e.Full is tests usable may memory line =
        left e.Full line (λ is. cc) (Refused Full) (at.stands.usable, tested_by first tested e.Full is (λ is. cc) (λ is. cc), leads_same before)
    plan_refused e.Fragmented is tests usable may memory line =
        left e.Fragmented line (λ is. cc) (Refused Fragmented) (at.stands.usable, tested_by first tested e.Fragmented is (λ is. cc) (λ is. cc), leads_same before)
    plan_refused e.TooMany is tests usable may memory line =
        left e.TooMany line (λ is. cc) (Refused TooMany) (at.stands.usable, tested_by first tested e.TooMany is (λ is. cc) (λ is. cc), leads_same before)
    plan_refused e.GenerationEnd is tests usable may memory line =
        left e.GenerationEnd line (λ is. cc) (Refused GenerationEnd) (at.stands.usable, tested_by first tested e.GenerationEnd is (λ is. cc) (λ is. cc), leads_same before)
    plan_refused e.Reopen is tests usable may memory line = absurd (usable refl)
    plan_refused e.NotFormatted is tests usable may memory line = absurd may
    plan_refused e.AlreadyFormatted is tests usable may memory line = absurd may
    plan_refused e.Damaged is tests usable may memory line = absurd may
    plan_refused e.BadGeometry is tests usable may memory line = absurd may
    plan_refused e.OldFormat is tests usable may memory line = absurd may

    -- whatever the store answered, the command was applied
    pub plan_answered : (answer : Result (Unit {0}) StoreRefusal) → IsAnswer first answer → first ≢ Some e.Device → IsLine facts old new most Refuses answer
        → ((r : StoreRefusal) → Refuses r → IsRefusalOfPutNew r) → (answer ≡ Err e.OutOfMemory → TakesMemory q) → OnOk answer (IsDraftedAt facts new s (drafted d (accepted d q)))
        → AppliesDraft facts old new s d q (answer_of (in_words answer))
    plan_answered (Ok done) is tests line may memory after = plan_done done is line after
    plan_answered (Err r) is tests line may memory after =
        plan_refused r is tests (λ reopens. false≢true (sym at.stands.usable ∙ line.changed.reopen.0 (ap Err reopens))) (may r line.changed.refusals) (λ lacks. memory (ap Err lacks)) line

-- A library with these bytes is installed or replaced in a draft.
module _ {D : Type 0} (facts : D → DiskFacts) {old : Drafted D} {s d : State} (at : IsDraftedAt facts old s d) (bytes : List ℕ) where
  abbrev here : Phase
  here = draft_phase facts old d

  -- if the file is no library, or memory to admit it is refused, the put is refused, and the draft is
  -- unchanged
  pub plan_no_install : (e : Refusal) → IsLibraryRefusal bytes e → e ≢ Device → AppliesDraft facts old old s d (install bytes) (Refused e)
  plan_no_install e is other = draft_stays facts at (install bytes) (Refused e) (plan_refusal here here (install bytes) e other
      (put_step here (install bytes) bytes at.stands.usable (λ r. file_first (library_refusal bytes) r _) (λ memory. memory) e is))

  pub plan_no_replace : (e : Refusal) → IsLibraryRefusal bytes e → e ≢ Device → AppliesDraft facts old old s d (replace bytes) (Refused e)
  plan_no_replace e is other = draft_stays facts at (replace bytes) (Refused e) (plan_refusal here here (replace bytes) e other
      (put_step here (replace bytes) bytes at.stands.usable (λ r. file_first (library_refusal bytes) r _) (λ memory. memory) e is))

  module _ (taken : library_refusal bytes ≡ None) (name : List ℕ) (named : name ≡ name_of bytes) where
    -- if the name is already installed, an install is refused with C2; if it isn't installed, a
    -- replacement is refused with C3
    pub plan_there : has_name (names_of d.libraries) name ≡ true → AppliesDraft facts old old s d (install bytes) (Refused AlreadyInstalled)
    plan_there there = draft_stays facts at (install bytes) (Refused AlreadyInstalled)
        (at.stands.usable, is_there here bytes taken (subst (λ n. has_name (names_of d.libraries) n ≡ true) named there), leads_same here)

    pub plan_lacking : has_name (names_of d.libraries) name ≡ false → AppliesDraft facts old old s d (replace bytes) (Refused NotInstalled)
    plan_lacking absent = draft_stays facts at (replace bytes) (Refused NotInstalled)
        (at.stands.usable, is_lacking here bytes taken (subst (λ n. has_name (names_of d.libraries) n ≡ false) named absent), leads_same here)

    module _ {new : Drafted D} {most : ℕ} (root : old.store.root.sectors ≡ (facts old.store.disk).sectors) (memory : ReadNeedsMemory bytes) (answer : Result (Unit {0}) StoreRefusal) where
      -- if the name isn't installed, the library is installed after the others, or refused by the store
      pub plan_installed : has_name (names_of d.libraries) name ≡ false → IsAnswer (refusal_of_new (room_drafted old) (longest_drafted old) d bytes) answer
          → IsLine facts old new most IsRefusalOfPutNew answer → OnOk answer (IsDraftedAt facts new s (drafted d (with_new name bytes d))) → AppliesDraft facts old new s d (install bytes) (answer_of (in_words answer))
      plan_installed absent is line after =
          plan_answered facts at (install bytes) tt (refusal_of_new (room_drafted old) (longest_drafted old) d bytes)
          (install_refusal here bytes taken (subst (λ n. has_name (names_of d.libraries) n ≡ false) named absent)
          ∙ ap (λ n. option_map refusal_of (refusal_of_new (n - beside old) (longest_drafted old) d bytes)) (sym root))
          answer is (no_failed_new (room_drafted old) (longest_drafted old) d bytes) line (λ r may. may) (λ lacks. memory)
          (subst (λ n. OnOk answer (IsDraftedAt facts new s (drafted d (with_new n bytes d)))) named after)

      -- if the name is installed, the library with this name is replaced, or the store refuses
      pub plan_replaced : has_name (names_of d.libraries) name ≡ true → IsExactAnswer (refusal_of_put (room_drafted old) (longest_drafted old) d bytes) answer
          → IsLine facts old new most IsRefusalOfPutOver answer → OnOk answer (IsDraftedAt facts new s (drafted d (with_bytes name bytes d))) → AppliesDraft facts old new s d (replace bytes) (answer_of (in_words answer))
      plan_replaced there is line after =
          let first = refusal_of_put (room_drafted old) (longest_drafted old) d bytes in
          plan_answered facts at (replace bytes) tt first
          (replace_refusal here bytes taken (subst (λ n. has_name (names_of d.libraries) n ≡ true) named there)
          ∙ ap (λ n. option_map refusal_of (refusal_of_put (n - beside old) (longest_drafted old) d bytes)) (sym root))
          answer (exact_answer first answer is) (no_failed_put (room_drafted old) (longest_drafted old) d bytes) line over_is_new (λ lacks. memory)
          (subst (λ n. OnOk answer (IsDraftedAt facts new s (drafted d (with_bytes n bytes d)))) named after)

-- On any disk, if no call was made, the current state and the held byte strings are unchanged.
module _ {D : Type 0} (facts : D → DiskFacts) (u : Drafted D) where
  pub beside_same : StaysBeside facts u u
  beside_same = record {
    any_moment = λ s at. at_rest (facts u.store.disk) (λ m. Stands m s) (λ m mixture. (u.store.root, u.store.entries, at.stands m mixture));
    root = refl;
    entries = refl;
    table = refl;
    held = keeps_held_same facts u.store;
  }

  pub draft_same : IsSameDraft u u
  draft_same = record { entries = refl; preloads = refl; touched = refl }

  pub planned_none : {A : Type 0} {most : ℕ} {Refuses : Refusal → Type 0} (refusal : Refusal) → (◌≡◌ {A = Result A Refusal} (Err refusal) (Err Reopen) ↔ IsTrue u.store.failed) → (◌≡◌ {A = Result A Refusal} (Err refusal) (Err Device) → ⊥) → Refuses refusal
      → IsPlanned facts u u most Refuses (Err refusal)
  planned_none refusal reopen other may = record {
    beside = beside_same;
    changed = changed_none facts u.store refusal reopen other may;
    refused = draft_same;
    planned = tt;
  }

module _ {D : Type 0} (facts : D → DiskFacts) (u : Drafted D) {most : ℕ} {Refuses : Refusal → Type 0} where
  -- if the update has to be given up, the change is refused with S2
  pub planned_reopen : IsTrue u.store.failed → Refuses Reopen → IsPlanned facts u u most Refuses (Err Reopen)
  planned_reopen failed may = record { beside = beside_same facts u; changed = changed_reopen facts u.store failed may; refused = draft_same facts u; planned = tt }

  -- if the change is refused with neither S1 nor S2 before the store is called, nothing changes
  pub planned_refused : (refusal : Refusal) → IsFalse u.store.failed → refusal ≢ Reopen → refusal ≢ Device → Refuses refusal → IsPlanned facts u u most Refuses (Err refusal)
  planned_refused refusal usable opened other may = record { beside = beside_same facts u; changed = changed_refused facts u.store refusal usable opened other may; refused = draft_same facts u; planned = tt }

-- If the store answered, its answer is the registry's answer.
pub planned_in_words : {D : Type 0} (facts : D → DiskFacts) {old new : Drafted D} {most : ℕ} {May : StoreRefusal → Type 0} (Refuses : Refusal → Type 0)
    → ((refusal : StoreRefusal) → May refusal → Refuses (refusal_of refusal)) → (answer : Result (Unit {0}) StoreRefusal) → IsLine facts old new most May answer
    → OnOk answer (new.touched ≢ Nothing) → IsPlanned facts old new most Refuses (in_words answer)
planned_in_words facts Refuses may (Ok done) line touched = record { beside = line.beside; changed = changed_in_words facts Refuses may (Ok done) line.changed; refused = tt; planned = touched }
planned_in_words facts Refuses may (Err r) line touched = record { beside = line.beside; changed = changed_in_words facts Refuses may (Err r) line.changed; refused = line.refused; planned = tt }

-- setting the preloads counts as a change, whatever was changed before
pub preloads_change : (t : Touched) → touched_preloads t ≢ Nothing
preloads_change Nothing is = cc is
preloads_change Preloads is = cc is
preloads_change Listed is = cc is

-- refusals of one kind are refusals of a wider kind
pub refusals_may : {May Might : StoreRefusal → Type 0} → ((refusal : StoreRefusal) → May refusal → Might refusal) → (answer : Result (Unit {0}) StoreRefusal) → IfErr answer May → IfErr answer Might
refusals_may may (Ok done) is = tt
refusals_may may (Err refusal) is = may refusal is

-- A change leaves of the draft what `LeavesDraft` defines for its answer.
pub plan_leaves : {D : Type 0} (old new : Drafted D) (q : Request) → IsChange q → (answer : Result (Unit {0}) Refusal) → OnErr answer (IsSameDraft old new)
    → OnOk answer (new.touched ≢ Nothing) → LeavesDraft old new q (answer_of answer)
plan_leaves old new q is (Err refusal) same touched = same
plan_leaves old new (install bytes) is (Ok done) same touched = touched
plan_leaves old new (replace bytes) is (Ok done) same touched = touched
plan_leaves old new (remove name) is (Ok done) same touched = touched
plan_leaves old new (set_preloads names) is (Ok done) same touched = touched
plan_leaves old new (bind program base) is (Ok done) same touched = absurd is
plan_leaves old new list is (Ok done) same touched = absurd is

pub bind_leaves : {D : Type 0} (old new : Drafted D) (program : List ℕ) (base : ℕ) (answer : Reply) → IsSameDraft old new → LeavesDraft old new (bind program base) answer
bind_leaves old new program base Done same = same
bind_leaves old new program base (Listing listing) same = same
bind_leaves old new program base (Bound image) same = same
bind_leaves old new program base (Refused refusal) same = same

module _ {D : Type 0} (facts : D → DiskFacts) where
  pub list_leaves : (u : Drafted D) (answer : Reply) → LeavesDraft u u list answer
  list_leaves u Done = refl
  list_leaves u (Listing listing) = refl
  list_leaves u (Bound image) = refl
  list_leaves u (Refused refusal) = draft_same facts u

  -- a command that was applied to a draft may be replaced by an equal command with an equal answer
  pub applies_draft_as : {old new : Drafted D} {s d : State} {q q' : Request} {r r' : Reply} → q' ≡ q → r' ≡ r → AppliesDraft facts old new s d q r → AppliesDraft facts old new s d q' r'
  applies_draft_as {old = old} {new = new} {s = s} {d = d} {q = q} {r' = r'} asked told applies =
      subst (λ x. AppliesDraft facts old new s d x r') (sym asked) (subst (λ y. AppliesDraft facts old new s d q y) (sym told) applies)

  plan_left : {old new : Drafted D} {most : ℕ} {Refuses : Refusal → Type 0} (answer : Result (Unit {0}) Refusal) → IsPlanned facts old new most Refuses answer → IsTrue old.store.failed → new ≡ old
  plan_left (Ok done) planned failed = let no : ◌≡◌ {A = Result (Unit {0}) Refusal} (Ok done) (Err Reopen) = planned.changed.reopen.1 failed in cc
  plan_left (Err refusal) planned failed = same_whole (left_failed facts (Err refusal) planned.changed failed) planned.refused

  -- if the effect of a draft's change on any disk is as `IsPlanned` defines, the change is an answered
  -- command
  pub plan_answered_as : {old new : Drafted D} {most : ℕ} {Refuses : Refusal → Type 0} {q q' : Request} {r : Reply} (answer : Result (Unit {0}) Refusal) → q' ≡ q → r ≡ answer_of answer
      → IsPlanned facts old new most Refuses answer → IsAnswerTo q (answer_of answer) → LeavesDraft old new q (answer_of answer) → AnsweredDraft facts old new q' r
  plan_answered_as {old = old} {new = new} {q = q} {r = r} answer asked told planned answers leaves =
      subst (λ x. AnsweredDraft facts old new x r) (sym asked) (subst (λ y. AnsweredDraft facts old new q y) (sym told) (record {
        reopen = refused_reopen facts answer planned.changed;
        failed = plan_left answer planned;
        device = failed_call facts answer planned.changed;
        answers = answers;
        beside = planned.beside;
        leaves = leaves;
        calls = planned.changed.calls.some;
      }))
