-- The commit of an update is an exchange of a run, and so is giving up an update.
use Rattle.std.proofs.Common.{◌≡◌, ◌⊎◌, ℕ, inl, inr, ⊎_elim, List, [], ◌∷◌, Result, Ok, Err, All, IsTrue, refl, sym, ap, subst}
use Rattle.std.specs.Prelude.{OnOk}
use Rattle.std.specs.List.{list_any}
use Rattle.std.proofs.lemmas.Bool.{both_ways}
use Rattle.sector_disk.specs.Disk.{Sector, DiskFacts, HoldsNow, LeavesOnly}
use Rattle.sector_disk.proofs.Moments.{at_rest, goes_on, weaken}
use Rattle.states.specs.State.{State}
use Rattle.store.specs.Changed.{Changed}
use Rattle.store.specs.Draft.{Drafted, IsDraftedAt, begun, committed}
use Rattle.store.specs.Opened as store
use Rattle.store.specs.Opened.{Opened}
use Rattle.store.specs.Stands as sectors
use Rattle.store.specs.declared.refusal.StoreRefusal.{StoreRefusal}
use Rattle.store.specs.declared.refusal.StoreRefusal.TheVariants as e
use Rattle.requests.specs.Library.{IsLibrary}
use Rattle.requests.specs.Request.{Request}
use Rattle.requests.specs.Runs.{Run, Steps, last_of}
use Rattle.requests.specs.Step.{answer_of}
use Rattle.requests.specs.declared.refusal.Refusal.{Refusal}
use Rattle.requests.specs.declared.refusal.Refusal.TheVariants.{Device, Reopen}
use Rattle.requests.specs.declared.reply.Reply.{Reply}
use Rattle.requests.specs.declared.reply.Reply.TheVariants.{Refused}
use Rattle.registry.specs.Opened.{IsAt}
use Rattle.registry.specs.Refusals.{refusal_of}
use Rattle.registry.specs.inside.Reading.{in_words}
use Rattle.registry.specs.Ran.{GivesUp, UpdatesAt, point}
use Rattle.registry.specs.Stands.{Stands}
use Rattle.registry.specs.Updating.{DraftAnswers, IsUpdate, Plans, asks_change, drafted_by, updated}
use Rattle.registry.proofs.Changed.{changed_in_words}
use Rattle.registry.proofs.Updating.{begun_at, each_next, is_update, plans_moment}

-- sectors that hold a state of the store hold it as a state of a registry, if all of its files are
-- libraries
listed : (m : List Sector) (s : State) → All IsLibrary s.libraries → sectors.Stands m s → Stands m s
listed m s libraries stands = record { stored = stands; libraries = libraries }

-- The registry's answer to a commit is the store's answer, with the registry's refusals.
pub ok_in_words : (P : Type 0) (answer : Result (Unit {0}) StoreRefusal) → OnOk answer P → OnOk (in_words answer) P
ok_in_words P (Ok done) h = h
ok_in_words P (Err refusal) h = tt

commit_may : (refusal : StoreRefusal) → (refusal ≡ e.Device) ⊎ (refusal ≡ e.Reopen) → (refusal_of refusal ≡ Device) ⊎ (refusal_of refusal ≡ Reopen)
commit_may refusal (inl is) = inl (ap refusal_of is)
commit_may refusal (inr is) = inr (ap refusal_of is)

pub committed_in_words : {D : Type 0} (facts : D → DiskFacts) {old new : Opened D} {most : ℕ} (answer : Result (Unit {0}) StoreRefusal)
    → Changed facts e.Device e.Reopen old new most (λ refusal. (refusal ≡ e.Device) ⊎ (refusal ≡ e.Reopen)) answer
    → Changed facts Device Reopen old new most (λ refusal. (refusal ≡ Device) ⊎ (refusal ≡ Reopen)) (in_words answer)
committed_in_words facts answer changed = changed_in_words facts (λ refusal. (refusal ≡ Device) ⊎ (refusal ≡ Reopen)) commit_may answer changed

-- an update was begun on a registry at a state: its draft is at the current state
module _ {D : Type 0} (facts : D → DiskFacts) (old : Opened D) (s : State) (at : IsAt facts old s) (holds : IsTrue (facts old.disk).honest → HoldsNow (facts old.disk))
    (requests : List Request) (answers : List Reply) (u : Drafted D) where
  starts : IsDraftedAt facts (begun old) s s
  starts = begun_at facts s old holds at.stored

  -- the requests were planned: they are an update
  module _ (plans : Plans facts (begun old) u requests answers) where
    pub planned : IsUpdate facts (begun old) u s requests answers
    planned = is_update facts s (begun old) u requests answers refl starts plans

    abbrev to : State
    to = updated s requests

    libraries : All IsLibrary to.libraries
    libraries = each_next s (drafted_by s requests) (list_any asks_change requests) at.libraries (planned.libraries at.libraries)

    abbrev MayLeave : List Sector → Type 0
    MayLeave m = Stands m s ⊎ Stands m to

    -- the draft was committed: a stop leaves the state before or after the update
    module _ (new : Opened D)
        (left : LeavesOnly (facts u.store.disk) (facts new.disk) (λ m. sectors.Stands m s ⊎ sectors.Stands m (committed u.touched s (drafted_by s requests)))) where
      any_moment : LeavesOnly (facts old.disk) (facts new.disk) MayLeave
      any_moment =
          goes_on MayLeave (weaken (λ m. sectors.Stands m s) MayLeave (λ m stands. inl (listed m s at.libraries stands)) (plans_moment facts s (begun old) u requests answers starts plans))
          (weaken (λ m. sectors.Stands m s ⊎ sectors.Stands m to) MayLeave
          (λ m. ⊎_elim (λ stands. inl (listed m s at.libraries stands)) (λ stands. inr (listed m to libraries stands)))
          (subst (λ (t : State). LeavesOnly (facts u.store.disk) (facts new.disk) (λ m. sectors.Stands m s ⊎ sectors.Stands m t)) planned.made left))

      pub commit_made : (most : ℕ) (answer : Result (Unit {0}) Refusal) → OnOk answer (store.IsAt facts new (committed u.touched s (drafted_by s requests)))
          → Changed facts Device Reopen u.store new most (λ e. (e ≡ Device) ⊎ (e ≡ Reopen)) answer
          → (s' : State) × UpdatesAt facts (point old s) requests (answer_of answer) (point new s')
      commit_made most (Ok done) ok changed = (
        to,
        record {
          at = at;
          draft = u;
          answers = answers;
          planned = planned;
          any_moment = any_moment;
          ends = inl (refl, refl, record { stored = subst (store.IsAt facts new) planned.made ok; libraries = libraries });
        },
      )
      commit_made most (Err refusal) ok changed =
          let failed : refusal ≡ Device =
          ⊎_elim (λ device. device) (λ reopen. absurd (both_ways u.store.failed planned.at.stands.usable (changed.reopen.0 (ap Err reopen)))) changed.refusals in (
            s,
            record {
              at = at;
              draft = u;
              answers = answers;
              planned = planned;
              any_moment = any_moment;
              ends = inr (ap Refused failed, refl, (changed.device failed).1);
            },
          )

  -- the disk still holds the current state, and either the draft is at some state or a write of it
  -- failed
  abbrev Stays : Drafted D → Type 0
  Stays v = LeavesOnly (facts old.disk) (facts v.store.disk) (λ m. sectors.Stands m s) × (((d : State) × IsDraftedAt facts v s d) ⊎ IsTrue v.store.failed)

  stays_one : (mid v : Drafted D) (q : Request) (r : Reply) → Stays mid → DraftAnswers facts mid q r v → Stays v
  stays_one mid v q r (left, inl (d, here)) did =
      let to = did.applied s d here in
      (goes_on (λ m. sectors.Stands m s) left to.1.any_moment, ⊎_elim (λ there. inl (to.0, there)) (λ failed. inr failed.0) to.1.kept)
  stays_one mid v q r (left, inr failed) did = subst Stays (sym (did.on_any_disk.failed failed)) (left, inr failed)

  stays_all : (mid : Drafted D) (qs : List Request) (rs : List Reply) (vs : List (Drafted D)) → Stays mid → Steps (DraftAnswers facts) mid qs rs vs → Stays (last_of mid vs)
  stays_all mid [] [] [] stays steps = stays
  stays_all mid (q ∷ qs) (r ∷ rs) (v ∷ vs) stays steps = stays_all v qs rs vs (stays_one mid v q r stays steps.0) steps.1
  stays_all mid [] [] (v ∷ vs) stays steps = absurd steps
  stays_all mid [] (r ∷ rs) vs stays steps = absurd steps
  stays_all mid (q ∷ qs) [] vs stays steps = absurd steps
  stays_all mid (q ∷ qs) (r ∷ rs) [] stays steps = absurd steps

  -- If an update is given up, the registry stays at its state, whatever the requests were.
  pub gives_up : Run (DraftAnswers facts) (begun old) requests answers u → GivesUp facts (point old s) (point u.store s)
  gives_up run =
      let first : Stays (begun old) = (at_rest (facts old.disk) (λ m. sectors.Stands m s) (λ m mixture. (old.root, old.entries, at.stored.stands m mixture)), inl (s, starts)) in
      let stays : Stays u = subst Stays (sym run.2) (stays_all (begun old) requests answers run.0 first run.1) in
      record {
        at = at;
        same = refl;
        any_moment = weaken (λ m. sectors.Stands m s) (λ m. Stands m s) (λ m stands. listed m s at.libraries stands) stays.0;
        kept = ⊎_elim (λ there. inl (record { stored = there.1.stands; libraries = at.libraries })) inr stays.1;
      }
