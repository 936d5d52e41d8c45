-- The answer of a change on any disk, as it follows from the store's answer.
use Rattle.std.proofs.Common.{◌≡◌, ◌≢◌, ◌↔◌, ◌∙◌, ◌<◌, ℕ, List, length, Result, Ok, Err, IfErr, IsTrue, IsFalse, refl, sym, ap, subst, arith}
use Rattle.std.specs.Prelude.{OnOk}
use Rattle.std.proofs.lemmas.Bool.{false≢true}
use Rattle.sector_disk.specs.Disk.{DiskFacts, AreCallsExactly, HoldsNow}
use Rattle.sector_disk.proofs.Moments.{exactly_none, exactly_at_most}
use Rattle.store.specs.Changed.{Changed}
use Rattle.store.specs.Holds.{AreHolds, KeepsHeld}
use Rattle.store.specs.Opened.{Opened, IsAt}
use Rattle.store.specs.Step.{IsRefusalOfChange, IsRefusalOfPutNew, IsRefusalOfPutOver}
use Rattle.store.specs.declared.refusal.StoreRefusal.{StoreRefusal}
use Rattle.store.specs.declared.refusal.StoreRefusal.TheVariants as e
use Rattle.states.specs.State.{State}
use Rattle.requests.specs.Reading.{IsLibraryRefusal}
use Rattle.requests.specs.Request.{Request}
use Rattle.requests.specs.Step.{answer_of}
use Rattle.requests.specs.declared.refusal.Refusal.{Refusal}
use Rattle.requests.specs.declared.refusal.Refusal.TheVariants.{Device, Reopen, Object, OutOfMemory}
use Rattle.requests.specs.declared.reply.Reply.{Reply}
use Rattle.requests.specs.declared.reply.Reply.TheVariants.{Refused}
use Rattle.registry.specs.Answered.{Answered, ChangeLeaves, IsAnswerTo, IsChangeAnswer, Leaves}
use Rattle.registry.specs.Answered.{IsInstallRefusal, IsReplaceRefusal, IsRemoveRefusal, IsPreloadsRefusal}
use Rattle.registry.specs.Calls.{IfAccepted, calls_of}
use Rattle.registry.specs.Refusals.{refusal_of}
use Rattle.registry.specs.inside.Reading.{in_words}
use Rattle.registry.proofs.States.{count_is}

-- each refusal of a change that needs no file is among the refusals of a put
pub change_may : (refusal : StoreRefusal) → IsRefusalOfChange refusal → IsRefusalOfPutNew refusal
change_may e.Device may = tt
change_may e.Reopen may = tt
change_may e.GenerationEnd may = tt
change_may other may = absurd may

-- a change that needs no file isn't refused because of memory
pub change_ample : (answer : Result (Unit {0}) StoreRefusal) → IfErr answer IsRefusalOfChange → answer ≡ Err e.OutOfMemory → ⊥
change_ample answer refused is = subst (λ a. IfErr a IsRefusalOfChange) is refused

-- a refusal of the store for a change is a refusal that the registry may return for this change
pub install_may : (refusal : StoreRefusal) → IsRefusalOfPutNew refusal → IsInstallRefusal (refusal_of refusal)
install_may e.Device may = tt
install_may e.Reopen may = tt
install_may e.Full may = tt
install_may e.Fragmented may = tt
install_may e.TooMany may = tt
install_may e.GenerationEnd may = tt
install_may e.OutOfMemory may = tt
install_may other may = absurd may

pub replace_may : (refusal : StoreRefusal) → IsRefusalOfPutOver refusal → IsReplaceRefusal (refusal_of refusal)
replace_may e.Device may = tt
replace_may e.Reopen may = tt
replace_may e.Full may = tt
replace_may e.Fragmented may = tt
replace_may e.GenerationEnd may = tt
replace_may e.OutOfMemory may = tt
replace_may other may = absurd may

pub remove_may : (refusal : StoreRefusal) → IsRefusalOfChange refusal → IsRemoveRefusal (refusal_of refusal)
remove_may e.Device may = tt
remove_may e.Reopen may = tt
remove_may e.GenerationEnd may = tt
remove_may other may = absurd may

pub preloads_may : (refusal : StoreRefusal) → IsRefusalOfChange refusal → IsPreloadsRefusal (refusal_of refusal)
preloads_may e.Device may = tt
preloads_may e.Reopen may = tt
preloads_may e.GenerationEnd may = tt
preloads_may other may = absurd may

-- if the registry's refusal is S1, so is the store's, and the same holds for S2
device_alone : (refusal : StoreRefusal) → refusal_of refusal ≡ Device → refusal ≡ e.Device
device_alone e.Device is = refl
device_alone other is = cc

reopen_alone : (refusal : StoreRefusal) → refusal_of refusal ≡ Reopen → refusal ≡ e.Reopen
reopen_alone e.Reopen is = refl
reopen_alone other is = cc

same_refusal : {A : Type 0} (r s : Refusal) → ◌≡◌ {A = Result A Refusal} (Err r) (Err s) → r ≡ s
same_refusal r s is = cc

-- the refusals of a file that is no library are neither S1 nor S2, and are refusals of an install and of
-- a replacement
pub library_refused : (bytes : List ℕ) (refusal : Refusal) → IsLibraryRefusal bytes refusal
    → (refusal ≢ Reopen) × (refusal ≢ Device) × IsInstallRefusal refusal × IsReplaceRefusal refusal
library_refused bytes (Object refusal) is = (λ same. cc, λ same. cc, tt, tt)
library_refused bytes OutOfMemory is = (λ same. cc, λ same. cc, tt, tt)
library_refused bytes other is = absurd is

-- the reply to a change is its result
pub change_answers : (Refuses : Refusal → Type 0) (answer : Result (Unit {0}) Refusal) → IfErr answer Refuses → IsChangeAnswer Refuses (answer_of answer)
change_answers Refuses (Ok done) may = tt
change_answers Refuses (Err refusal) may = may

module _ {D : Type 0} (facts : D → DiskFacts) where
  -- if a test refuses a change before the store is called, nothing changes
  pub changed_none : {A : Type 0} (store : Opened D) {most : ℕ} {Refuses : Refusal → Type 0} (refusal : Refusal) → (◌≡◌ {A = Result A Refusal} (Err refusal) (Err Reopen) ↔ IsTrue store.failed)
      → (◌≡◌ {A = Result A Refusal} (Err refusal) (Err Device) → ⊥) → Refuses refusal → Changed facts Device Reopen store store most Refuses (Err refusal)
  changed_none store refusal reopen other may = record {
    reopen = (λ is. reopen.0 (ap Err (same_refusal refusal Reopen is)), λ failed. ap Err (same_refusal refusal Reopen (reopen.1 failed)));
    device = λ is. absurd (other (ap Err is));
    same = λ is. refl;
    usable = tt;
    refusals = may;
    all_calls = tt;
    calls = exactly_at_most (exactly_none (facts store.disk)) (omega arith);
  }

  -- if a write or a sync failed before, a change is refused with S2, and nothing changes
  pub changed_reopen : (store : Opened D) {most : ℕ} {Refuses : Refusal → Type 0} → IsTrue store.failed → Refuses Reopen → Changed facts Device Reopen store store most Refuses (Err Reopen)
  changed_reopen store failed may = changed_none {A = Unit {0}} store Reopen (λ is. failed, λ is. refl) (λ is. cc) may

  -- if a change is refused with neither S1 nor S2 before the store is called, nothing changes
  pub changed_refused : (store : Opened D) {most : ℕ} {Refuses : Refusal → Type 0} (refusal : Refusal) → IsFalse store.failed → refusal ≢ Reopen → refusal ≢ Device → Refuses refusal
      → Changed facts Device Reopen store store most Refuses (Err refusal)
  changed_refused store refusal usable opened other may =
      changed_none {A = Unit {0}} store refusal (λ is. absurd (opened (same_refusal refusal Reopen is)), λ failed. absurd (false≢true (sym usable ∙ failed)))
      (λ is. other (same_refusal refusal Device is)) may

  -- the store's answer to a change, turned into the registry's answer, is an answer of the registry
  pub changed_in_words : {old new : Opened D} {most : ℕ} {May : StoreRefusal → Type 0} (Refuses : Refusal → Type 0) → ((refusal : StoreRefusal) → May refusal → Refuses (refusal_of refusal))
      → (answer : Result (Unit {0}) StoreRefusal) → Changed facts e.Device e.Reopen old new most May answer → Changed facts Device Reopen old new most Refuses (in_words answer)
  changed_in_words Refuses may (Ok done) changed = record {
    reopen = (λ is. cc, λ failed. let no : ◌≡◌ {A = Result (Unit {0}) StoreRefusal} (Ok done) (Err e.Reopen) = changed.reopen.1 failed in cc);
    device = tt;
    same = tt;
    usable = changed.usable;
    refusals = tt;
    all_calls = changed.all_calls;
    calls = changed.calls;
  }
  changed_in_words Refuses may (Err refusal) changed = record {
    reopen = (λ is. changed.reopen.0 (ap Err (reopen_alone refusal (same_refusal (refusal_of refusal) Reopen is))), λ failed. ap in_words (changed.reopen.1 failed));
    device = λ is. changed.device (device_alone refusal is);
    same = λ other. changed.same (λ is. other (ap refusal_of is));
    usable = tt;
    refusals = may refusal changed.refusals;
    all_calls = tt;
    calls = changed.calls;
  }

  -- an accepted change made exactly its calls, whose number follows from the number of libraries
  pub calls_accepted : (old new : Opened D) (s : State) → IsAt facts old s → (IsTrue (facts old.disk).honest → HoldsNow (facts old.disk)) → (calls : ℕ → ℕ) (answer : Result (Unit {0}) Refusal)
      → OnOk answer (AreCallsExactly (calls (length old.entries)) (facts old.disk) (facts new.disk))
      → IfAccepted (answer_of answer) (AreCallsExactly (calls (length s.libraries)) (facts old.disk) (facts new.disk))
  calls_accepted old new s at holds calls (Ok done) made = subst (λ n. AreCallsExactly (calls n) (facts old.disk) (facts new.disk)) (count_is facts old s at holds) made
  calls_accepted old new s at holds calls (Err refusal) made = tt

  -- the number of calls is the same for an equal command and an equal answer
  pub calls_as : (old new : Opened D) (s : State) {q q' : Request} {r r' : Reply} → q' ≡ q → r' ≡ r
      → IfAccepted r (AreCallsExactly (calls_of s q) (facts old.disk) (facts new.disk)) → IfAccepted r' (AreCallsExactly (calls_of s q') (facts old.disk) (facts new.disk))
  calls_as old new s {q = q} {r' = r'} asked told made =
      subst (λ x. IfAccepted r' (AreCallsExactly (calls_of s x) (facts old.disk) (facts new.disk))) (sym asked)
      (subst (λ y. IfAccepted y (AreCallsExactly (calls_of s q) (facts old.disk) (facts new.disk))) (sym told) made)

  -- A change leaves what `ChangeLeaves` defines for its answer.
  pub change_leaves : {old new : Opened D} {most : ℕ} {Refuses : Refusal → Type 0} (answer : Result (Unit {0}) Refusal) → Changed facts Device Reopen old new most Refuses answer
      → ChangeLeaves old new (answer_of answer)
  change_leaves (Ok done) changed = changed.usable
  change_leaves (Err refusal) changed = (λ is. (changed.device is).1, changed.same)

  pub left_failed : {old new : Opened D} {most : ℕ} {Refuses : Refusal → Type 0} (answer : Result (Unit {0}) Refusal) → Changed facts Device Reopen old new most Refuses answer
      → IsTrue old.failed → new ≡ old
  left_failed (Ok done) changed failed = let no : ◌≡◌ {A = Result (Unit {0}) Refusal} (Ok done) (Err Reopen) = changed.reopen.1 failed in cc
  left_failed (Err refusal) changed failed = let is : refusal ≡ Reopen = same_refusal refusal Reopen (changed.reopen.1 failed) in changed.same (λ device. cc)

  pub failed_call : {old new : Opened D} {most : ℕ} {Refuses : Refusal → Type 0} (answer : Result (Unit {0}) Refusal) → Changed facts Device Reopen old new most Refuses answer
      → answer_of answer ≡ Refused Device → (facts old.disk).failures < (facts new.disk).failures
  failed_call (Ok done) changed is = cc
  failed_call (Err refusal) changed is = let device : refusal ≡ Device = cc in (changed.device device).0

  pub refused_reopen : {old new : Opened D} {most : ℕ} {Refuses : Refusal → Type 0} (answer : Result (Unit {0}) Refusal) → Changed facts Device Reopen old new most Refuses answer
      → (answer_of answer ≡ Refused Reopen) ↔ IsTrue old.failed
  refused_reopen (Ok done) changed = (λ is. cc, λ failed. let no : ◌≡◌ {A = Result (Unit {0}) Refusal} (Ok done) (Err Reopen) = changed.reopen.1 failed in cc)
  refused_reopen (Err refusal) changed = (λ is. let same : refusal ≡ Reopen = cc in changed.reopen.0 (ap Err same), λ failed. ap answer_of (changed.reopen.1 failed))

  -- if a change's effect on any disk is as `Changed` defines, the change is an answered command
  pub change_answered : {old new : Opened D} {most : ℕ} {Refuses : Refusal → Type 0} {q q' : Request} {r : Reply} (answer : Result (Unit {0}) Refusal) → q' ≡ q → r ≡ answer_of answer
      → Changed facts Device Reopen old new most Refuses answer → IsAnswerTo q (answer_of answer) → Leaves old new q (answer_of answer)
      → KeepsHeld facts old new → AreHolds old → AreHolds new → Answered facts old new q' r
  change_answered {old = old} {new = new} {q = q} {r = r} answer asked told changed answers leaves held before after =
      subst (λ x. Answered facts old new x r) (sym asked) (subst (λ y. Answered facts old new q y) (sym told) (record {
        did = record {
          reopen = refused_reopen answer changed;
          failed = left_failed answer changed;
          device = failed_call answer changed;
          leaves = leaves;
          held = held;
          holds_before = before;
          holds_after = after;
          calls = changed.calls.some;
        };
        answers = answers;
      }))
