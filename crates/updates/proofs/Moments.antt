-- Which states a stop leaves during an update, from the opening of its disk to its end.
use Rattle.std.proofs.Common.{◌≡◌, ℕ, List, [], ◌∷◌, ◌++◌, Option, Ok, Err, inl, inr, ⊎_elim, refl, sym, subst, ◌∙◌, ap}
use Rattle.std.specs.Prelude.{All, ◌⊎◌, IsTrue, OnOk, Result}
use Rattle.std.specs.List.{list_any}
use Rattle.sector_disk.specs.Disk.{Sector, DiskFacts, HoldsNow, Mixture, LeavesOnly}
use Rattle.sector_disk.proofs.Moments.{goes_on, weaken}
use Rattle.states.specs.State.{State}
use Rattle.store.specs.Draft.{Drafted, IsDraftedAt, begun}
use Rattle.store.specs.Opened.{Opened, IsAt}
use Rattle.store.specs.Opens.{OpensByEntries}
use Rattle.store.specs.Stands.{Stands}
use Rattle.requests.specs.Library.{IsLibrary}
use Rattle.requests.specs.Request.{Request}
use Rattle.requests.specs.Runs.{Run}
use Rattle.requests.specs.Step.{answer_of}
use Rattle.requests.specs.declared.refusal.Refusal.{Refusal}
use Rattle.requests.specs.declared.reply.Reply.{Reply}
use Rattle.requests.specs.declared.reply.Reply.TheVariants as reply
use Rattle.requests.proofs.Runs.{run_more}
use Rattle.program_parts.specs.declared.status.Status.{Status}
use Rattle.updates.specs.Commit.{Commits}
use Rattle.updates.specs.Ends.{IsBegun, IsExchange, IsRun, LeavesStanding, LeavesStandingBy}
use Rattle.updates.specs.Lines.{ArePlanned, IsRefusedAt}
use Rattle.program_parts.specs.Streams.{Streams}
use Rattle.registry.specs.Acknowledged.{answered, given_up, update}
use Rattle.registry.specs.Opened as at
use Rattle.registry.specs.Ran.{point}
use Rattle.registry.specs.Stands as registry
use Rattle.registry.specs.Updating.{DraftAnswers, IsUpdate, Plans, asks_change, drafted_by, updated}
use Rattle.updates.specs.Update.{requests_of}
use Rattle.updates.specs.declared.answer.UpdateRefusal.{UpdateRefusal}
use Rattle.updates.specs.declared.answer.UpdateRefusal.TheVariants.{BadLine, CutLine, NoCommit, Refused}
use Rattle.updates.specs.inside.Begun.{EndsBegun, IsBroken, IsCommitted, IsRefused}
use Rattle.registry.proofs.Committing.{gives_up}
use Rattle.registry.proofs.Running.{steps_ran}
use Rattle.registry.proofs.Updating.{begun_at, each_next}
use Rattle.updates.proofs.Drafts.{is_changed, is_update, planned_moment, plans}

-- if each file is a library, sectors that hold the state of the store also hold it as a registry
listed : (m : List Sector) (s : State) → All IsLibrary s.libraries → Stands m s → registry.Stands m s
listed m s libraries stands = record { stored = stands; libraries = libraries }

ok_listed : {D : Type 0} (facts : D → DiskFacts) (new : Opened D) (s : State) → All IsLibrary s.libraries → (answer : Result (Unit {0}) Refusal) → OnOk answer (IsAt facts new s) → OnOk answer (at.IsAt facts new s)
ok_listed facts new s libraries (Ok done) stored = record { stored = stored; libraries = libraries }
ok_listed facts new s libraries (Err refusal) stored = tt

both : {D : Type 0} (facts : D → DiskFacts) (disk left : D) → LeavesStandingBy facts disk Stands left → LeavesStanding facts disk left
both facts disk left stored = (
  stored,
  λ honest s stands. weaken (λ m. Mixture (facts disk) m ⊎ Stands m s) (λ m. Mixture (facts disk) m ⊎ registry.Stands m s)
      (λ m. ⊎_elim inl (λ here. inr (listed m s stands.libraries here))) (stored honest s stands.stored),
)

module _ {D : Type 0} (facts : D → DiskFacts) (disk : D) (old : Opened D) (opened : OpensByEntries facts disk (Ok old))
    (holds : IsTrue (facts old.disk).honest → HoldsNow (facts old.disk)) (lines : List (List ℕ)) (answers : List Reply) (u : Drafted D)
    (planned : ArePlanned facts (begun old) u lines answers) where
  -- the draft began in the state that the disk holds
  starts : IsTrue (facts disk).honest → (s : State) → Stands (facts disk).now s → IsDraftedAt facts (begun old) s s
  starts honest s stands = begun_at facts s old holds (opened.opened.stands honest s stands)

  update_of : IsTrue (facts disk).honest → (s : State) → Stands (facts disk).now s → IsUpdate facts (begun old) u s (requests_of lines) answers
  update_of honest s stands = is_update facts s (begun old) u lines answers refl (starts honest s stands) planned

  pub is_begun : IsBegun facts disk lines answers u
  is_begun = record {
    old = old;
    opened = opened;
    planned = planned;
    changed = is_changed facts (begun old) u lines answers refl planned;
    update = update_of;
  }

  abbrev Standing : State → List Sector → Type 0
  Standing s m = Mixture (facts disk) m ⊎ Stands m s

  -- until all lines were answered, a stop leaves the state that the disk holds
  drafting : LeavesStandingBy facts disk Stands u.store.disk
  drafting honest s stands =
      goes_on (Standing s) (weaken _ (Standing s) (λ m h. inl h) (opened.opened.any_moment honest))
      (weaken _ (Standing s) (λ m h. inr h) (planned_moment facts s (begun old) u lines answers (starts honest s stands) planned))

  pub to_draft : LeavesStanding facts disk u.store.disk
  to_draft = both facts disk u.store.disk drafting

  -- until a refusal was answered, a stop leaves the state that the disk holds
  pub to_refusal : (unread : Option (List ℕ)) (last : Drafted D) (refusal : UpdateRefusal) → IsRefusedAt facts unread lines u last refusal → LeavesStanding facts disk last.store.disk
  to_refusal unread last BadLine h = subst (λ (v : Drafted D). LeavesStanding facts disk v.store.disk) (sym h.0) to_draft
  to_refusal unread last CutLine h = subst (λ (v : Drafted D). LeavesStanding facts disk v.store.disk) (sym h.0) to_draft
  to_refusal unread last NoCommit h = subst (λ (v : Drafted D). LeavesStanding facts disk v.store.disk) (sym h.0) to_draft
  to_refusal unread last (Refused refusal) h = both facts disk last.store.disk (λ honest s stands.
      goes_on (Standing s) (drafting honest s stands)
      (weaken _ (Standing s) (λ m k. inr k) (h.2.2.applied s (drafted_by s (requests_of lines)) (update_of honest s stands).at).1.any_moment))

  -- if the disk holds a registry, the opened store is a registry at its state
  starts_at : IsTrue (facts disk).honest → (s : State) → registry.Stands (facts disk).now s → at.IsAt facts old s
  starts_at honest s stands = record { stored = opened.opened.stands honest s stands.stored; libraries = stands.libraries }

  asked : Plans facts (begun old) u (requests_of lines) answers
  asked = plans facts (begun old) u lines answers planned

  -- the requests to the draft, including that of a refused line
  asked_until : (unread : Option (List ℕ)) (last : Drafted D) (refusal : UpdateRefusal) → IsRefusedAt facts unread lines u last refusal
      → (requests : List Request) × (replies : List Reply) × Run (DraftAnswers facts) (begun old) requests replies last
  asked_until unread last BadLine h = (requests_of lines, answers, subst (λ (v : Drafted D). Run (DraftAnswers facts) (begun old) (requests_of lines) answers v) (sym h.0) asked.run)
  asked_until unread last CutLine h = (requests_of lines, answers, subst (λ (v : Drafted D). Run (DraftAnswers facts) (begun old) (requests_of lines) answers v) (sym h.0) asked.run)
  asked_until unread last NoCommit h = (requests_of lines, answers, subst (λ (v : Drafted D). Run (DraftAnswers facts) (begun old) (requests_of lines) answers v) (sym h.0) asked.run)
  asked_until unread last (Refused refusal) h = (
    requests_of lines ++ h.2.0 ∷ [],
    answers ++ reply.Refused refusal ∷ [],
    run_more (DraftAnswers facts) (begun old) u last h.2.0 (reply.Refused refusal) (requests_of lines) answers asked.run h.2.2,
  )

  -- an update that is given up is one exchange of a run
  gives_up_from : (requests : List Request) (replies : List Reply) (last : Drafted D) → Run (DraftAnswers facts) (begun old) requests replies last → IsExchange facts disk old given_up last.store
  gives_up_from requests replies last run honest s stands =
      let here = starts_at honest s stands in (
        here,
        (
          s,
          point last.store s ∷ [],
          refl,
          steps_ran facts (point old s) (given_up ∷ []) (point last.store s ∷ []) here (gives_up facts old s here holds requests replies last run, tt),
        ),
      )

  pub given_up_here : IsExchange facts disk old given_up u.store
  given_up_here = gives_up_from (requests_of lines) answers u asked.run

  pub given_up_refused : (unread : Option (List ℕ)) (last : Drafted D) (refusal : UpdateRefusal) → IsRefusedAt facts unread lines u last refusal → IsExchange facts disk old given_up last.store
  given_up_refused unread last refusal h = let until = asked_until unread last refusal h in gives_up_from until.0 until.1 last until.2

  -- a stop until the commit was answered may leave the sectors m
  abbrev MayBeLeft : State → State → List Sector → Type 0
  MayBeLeft s t m = Mixture (facts disk) m ⊎ (Stands m s ⊎ Stands m t)

  widen : (s t : State) (m : List Sector) → Standing s m → MayBeLeft s t m
  widen s t m (inl h) = inl h
  widen s t m (inr h) = inr (inl h)

  -- an update that is committed is one exchange of a run
  pub updates_once : (answer : Result (Unit {0}) Refusal) (new : Opened D) → Commits facts u answer new → IsExchange facts disk old (answered (update (requests_of lines)) (answer_of answer)) new
  updates_once answer new commit honest s stands =
      let here = starts_at honest s stands in
      let made = commit.made old s (requests_of lines) answers here asked in (
        here,
        (
          made.0,
          point new made.0 ∷ [],
          refl,
          steps_ran facts (point old s) (answered (update (requests_of lines)) (answer_of answer) ∷ []) (point new made.0 ∷ []) here (inl made.1, tt),
        ),
      )

  module _ (answer : Result (Unit {0}) Refusal) (new : Opened D) (commit : Commits facts u answer new) (honest : IsTrue (facts disk).honest) (s : State) (stands : Stands (facts disk).now s) where
    made_so : IsUpdate facts (begun old) u s (requests_of lines) answers
    made_so = update_of honest s stands

    pub to_commit : LeavesOnly (facts disk) (facts new.disk) (λ m. Mixture (facts disk) m ⊎ (Stands m s ⊎ Stands m (updated s (requests_of lines))))
    to_commit =
        goes_on (MayBeLeft s (updated s (requests_of lines))) (weaken (Standing s) (MayBeLeft s (updated s (requests_of lines))) (widen s (updated s (requests_of lines))) (drafting honest s stands))
        (weaken _ (MayBeLeft s (updated s (requests_of lines))) (λ m h. inr h)
        (subst (λ (t : State). LeavesOnly (facts u.store.disk) (facts new.disk) (λ m. Stands m s ⊎ Stands m t)) made_so.made (commit.any_moment s (drafted_by s (requests_of lines)) made_so.at)))

    -- once the commit is acknowledged, the updated state is on the disk
    pub once_committed : OnOk answer (IsAt facts new (updated s (requests_of lines)))
    once_committed = subst (λ (t : State). OnOk answer (IsAt facts new t)) made_so.made (commit.ok s (drafted_by s (requests_of lines)) made_so.at)

    -- If each file was a library before the update, each file is one after it.
    module _ (all : All IsLibrary s.libraries) where
      abbrev to : State
      to = updated s (requests_of lines)

      libraries : All IsLibrary to.libraries
      libraries = each_next s (drafted_by s (requests_of lines)) (list_any asks_change (requests_of lines)) all (made_so.libraries all)

      pub to_commit_listed : LeavesOnly (facts disk) (facts new.disk) (λ m. Mixture (facts disk) m ⊎ (registry.Stands m s ⊎ registry.Stands m to))
      to_commit_listed = weaken (MayBeLeft s to) (λ m. Mixture (facts disk) m ⊎ (registry.Stands m s ⊎ registry.Stands m to))
          (λ m. ⊎_elim inl (λ other. inr (⊎_elim (λ here. inl (listed m s all here)) (λ here. inr (listed m to libraries here)) other))) to_commit

      pub committed_listed : OnOk answer (at.IsAt facts new to)
      committed_listed = ok_listed facts new to libraries answer once_committed

module _ {D O : Type 0} (facts : D → DiskFacts) (contents : O → Option (List ℕ)) (disk : D) (old : Opened D) (opened : OpensByEntries facts disk (Ok old))
    (holds : IsTrue (facts old.disk).honest → HoldsNow (facts old.disk)) (io : Streams) (status : Status) (new : Opened D) (left : D) (back : left ≡ new.disk) where
  is_run_by : (lines : List (List ℕ)) (answers : List Reply) (u : Drafted D) → ArePlanned facts (begun old) u lines answers
      → IsCommitted facts contents io lines answers u status new ⊎ (IsRefused facts contents io lines answers u status new ⊎ IsBroken facts contents io lines answers u status new)
      → IsRun facts disk contents io status left
  unfolding is_begun
  is_run_by lines answers u planned (inl h) = (
    lines,
    answers,
    u,
    is_begun facts disk old opened holds lines answers u planned,
    inl (record {
      read = h.2;
      held = h.0;
      sent = h.3;
      answer = h.1;
      new = new;
      commit = h.4;
      any_moment = λ honest s stands.
          subst (λ (k : D). LeavesOnly (facts disk) (facts k) (λ m. Mixture (facts disk) m ⊎ (Stands m s ⊎ Stands m (updated s (requests_of lines))))) (sym back)
          (to_commit facts disk old opened holds lines answers u planned h.1 new h.4 honest s stands);
      ok = once_committed facts disk old opened holds lines answers u planned h.1 new h.4;
      registry_moment = λ honest s stands.
          subst (λ (k : D). LeavesOnly (facts disk) (facts k) (λ m. Mixture (facts disk) m ⊎ (registry.Stands m s ⊎ registry.Stands m (updated s (requests_of lines))))) (sym back)
          (to_commit_listed facts disk old opened holds lines answers u planned h.1 new h.4 honest s stands.stored stands.libraries);
      registry_ok = λ honest s stands. committed_listed facts disk old opened holds lines answers u planned h.1 new h.4 honest s stands.stored stands.libraries;
      ran = updates_once facts disk old opened holds lines answers u planned h.1 new h.4;
      told = h.5;
      back = back;
    }),
  )
  is_run_by lines answers u planned (inr (inl h)) =
      let same = back ∙ ap (λ (o : Opened D). o.disk) h.3 in (
        lines,
        answers,
        u,
        is_begun facts disk old opened holds lines answers u planned,
        inr (inl (record {
          refusal = h.0;
          last = h.1;
          refused = h.2;
          any_moment = subst (LeavesStanding facts disk) (sym same) (to_refusal facts disk old opened holds lines answers u planned io.unread h.1 h.0 h.2);
          ran = given_up_refused facts disk old opened holds lines answers u planned io.unread h.1 h.0 h.2;
          told = h.4;
          back = same;
        })),
      )
  is_run_by lines answers u planned (inr (inr h)) =
      let same = back ∙ ap (λ (o : Opened D). o.disk) h.4 in (
        lines,
        answers,
        u,
        is_begun facts disk old opened holds lines answers u planned,
        inr (inr (record {
          fault = h.0;
          part = h.1;
          one_at_most = h.2;
          read = h.3;
          any_moment = subst (LeavesStanding facts disk) (sym same) (to_draft facts disk old opened holds lines answers u planned);
          ran = given_up_here facts disk old opened holds lines answers u planned;
          told = h.5;
          back = same;
        })),
      )

  -- an update that was begun over a disk was run over this disk
  pub is_run : EndsBegun facts contents (begun old) io status new → IsRun facts disk contents io status left
  is_run h = is_run_by h.0 h.1 h.2 h.3 h.4
