-- For callers: requests to the draft of the current state, none of which is refused, are an update.
use Rattle.std.proofs.Common.{◌≡◌, ◌≢◌, ℕ, List, [], ◌∷◌, Bool, true, false, None, ◌||◌, if◌then◌else◌, refl, sym, ap, subst, ◌∙◌, ⊎_elim}
use Rattle.std.specs.Prelude.{All, IsFalse, IsTrue, ◌↔◌}
use Rattle.std.specs.List.{list_any}
use Rattle.std.proofs.lemmas.List.Elements.{All-head, All-tail}
use Rattle.sector_disk.specs.Disk.{DiskFacts, HoldsNow, LeavesOnly}
use Rattle.sector_disk.proofs.Moments.{goes_on, at_rest}
use Rattle.states.specs.Changes.{next}
use Rattle.states.specs.State.{State}
use Rattle.roots.specs.Root.{listed_preloads}
use Rattle.store.specs.Draft.{Drafted, IsDraftedAt, begun, committed, draft_state, drafted}
use Rattle.store.specs.Opened.{Opened, IsAt}
use Rattle.store.specs.Stands.{Stands}
use Rattle.store.specs.declared.draft.Touched.{Touched}
use Rattle.store.specs.declared.draft.Touched.TheVariants.{Nothing, Preloads, List as Listed}
use Rattle.requests.specs.Phase.{Phase}
use Rattle.requests.specs.Request.{Request, install, replace, remove, set_preloads, bind, list}
use Rattle.requests.specs.Runs.{Run, Steps, last_of}
use Rattle.requests.specs.Library.{IsLibrary}
use Rattle.requests.specs.Step.{Leads, accepted, refusal_at}
use Rattle.requests.specs.declared.refusal.Refusal.{Refusal}
use Rattle.requests.specs.declared.reply.Reply.{Reply}
use Rattle.requests.specs.declared.reply.Reply.TheVariants.{Done, Listing, Bound, Refused}
use Rattle.registry.specs.Answered.{IsChangeAnswer}
use Rattle.registry.specs.Drafting.{AnsweredDraft, DraftStep, LeavesDraft, PlanStep, draft_phase}
use Rattle.registry.specs.Updating.{DraftAnswers, IsUpdate, Plans, asks_change, drafted_by, is_refusal, updated}
use Rattle.registry.proofs.Untested.{each_accepted}

-- no write failed before the step or in it, and the draft's state is the one after the request
abbrev pub IsAcceptedStep : Phase → Request → Phase → Type 0
IsAcceptedStep p request p' = IsFalse p.failed × Leads p (drafted p.state (accepted p.state request)) p'

pub refuses : true ≡ false → ⊥
refuses is = cc is

planned : (p p' : Phase) (request : Request) (answer : Reply) → PlanStep p request answer p' → is_refusal answer ≡ false → IsAcceptedStep p request p'
planned p p' request Done h a = (h.0, h.3)
planned p p' request (Listing l) h a = (h.0, h.3)
planned p p' request (Bound image) h a = (h.0, h.3)
planned p p' request (Refused refusal) h a = absurd (refuses a)

pub accepted_step : (p p' : Phase) (request : Request) (answer : Reply) → DraftStep p request answer p' → is_refusal answer ≡ false → IsAcceptedStep p request p'
accepted_step p p' (install bytes) answer h a = planned p p' (install bytes) answer h a
accepted_step p p' (replace bytes) answer h a = planned p p' (replace bytes) answer h a
accepted_step p p' (remove name) answer h a = planned p p' (remove name) answer h a
accepted_step p p' (set_preloads names) answer h a = planned p p' (set_preloads names) answer h a
accepted_step p p' (bind program base) Done h a = (h.0.0, h.0.3)
accepted_step p p' (bind program base) (Listing l) h a = (h.0.0, h.0.3)
accepted_step p p' (bind program base) (Bound image) h a = (h.0.0, h.0.3)
accepted_step p p' (bind program base) (Refused refusal) h a = absurd (refuses a)
accepted_step p p' list Done h a = (h.0, h.3)
accepted_step p p' list (Listing l) h a = (h.0, h.3)
accepted_step p p' list (Bound image) h a = (h.0, h.3)
accepted_step p p' list (Refused refusal) h a = absurd (refuses a)

-- whether the draft is marked as changed after a request, if the request asks for a change or not
abbrev LeavesTouched : Touched → Touched → Bool → Type 0
LeavesTouched old new true = new ≢ Nothing
LeavesTouched old new false = new ≡ old

-- a change that isn't refused is answered with Done
done : (Refuses : Refusal → Type 0) (answer : Reply) → IsChangeAnswer Refuses answer → is_refusal answer ≡ false → answer ≡ Done
done Refuses Done h is = refl
done Refuses (Refused refusal) h is = absurd (refuses is)
done Refuses (Listing l) h is = absurd h
done Refuses (Bound image) h is = absurd h

module _ {D : Type 0} (facts : D → DiskFacts) where
  leaves : (old new : Drafted D) (request : Request) (answer : Reply) → AnsweredDraft facts old new request answer → is_refusal answer ≡ false
      → LeavesTouched old.touched new.touched (asks_change request)
  leaves old new (install bytes) answer h is = subst (LeavesDraft old new (install bytes)) (done _ answer h.answers is) h.leaves
  leaves old new (replace bytes) answer h is = subst (LeavesDraft old new (replace bytes)) (done _ answer h.answers is) h.leaves
  leaves old new (remove name) answer h is = subst (LeavesDraft old new (remove name)) (done _ answer h.answers is) h.leaves
  leaves old new (set_preloads names) answer h is = subst (LeavesDraft old new (set_preloads names)) (done _ answer h.answers is) h.leaves
  leaves old new (bind program base) (Bound image) h is = h.leaves.touched
  leaves old new (bind program base) (Listing l) h is = h.leaves.touched
  leaves old new (bind program base) Done h is = h.leaves.touched
  leaves old new (bind program base) (Refused refusal) h is = absurd (refuses is)
  leaves old new list (Listing l) h is = ap (λ (u : Drafted D). u.touched) h.leaves
  leaves old new list (Bound image) h is = ap (λ (u : Drafted D). u.touched) h.leaves
  leaves old new list Done h is = ap (λ (u : Drafted D). u.touched) h.leaves
  leaves old new list (Refused refusal) h is = absurd (refuses is)

  -- a draft has no change after a request and others exactly if it had none before and none of them asks
  -- for a change
  one_more : (old mid new : Touched) (first others : Bool) → LeavesTouched old mid first → (new ≡ Nothing) ↔ ((mid ≡ Nothing) × (others ≡ false))
      → (new ≡ Nothing) ↔ ((old ≡ Nothing) × ((first || others) ≡ false))
  one_more old mid new true others left rest = ((λ is. absurd (left (rest.0 is).0)), (λ is. absurd (refuses is.1)))
  one_more old mid new false others left rest = ((λ is. (sym left ∙ (rest.0 is).0, (rest.0 is).1)), (λ is. rest.1 (left ∙ is.0, is.1)))

  touched_by : (old : Drafted D) (requests : List Request) (answers : List Reply) (drafts : List (Drafted D)) → Steps (DraftAnswers facts) old requests answers drafts
      → All (λ (answer : Reply). is_refusal answer ≡ false) answers
      → ((last_of old drafts).touched ≡ Nothing) ↔ ((old.touched ≡ Nothing) × (list_any asks_change requests ≡ false))
  touched_by old [] [] [] steps is = ((λ none. (none, refl)), (λ none. none.0))
  touched_by old (request ∷ requests) (answer ∷ answers) (u ∷ drafts) steps is =
      let left = leaves old u request answer steps.0.on_any_disk (All-head (λ (a : Reply). is_refusal a ≡ false) answer answers is) in
      let rest = touched_by u requests answers drafts steps.1 (All-tail (λ (a : Reply). is_refusal a ≡ false) answer answers is) in
      one_more old.touched u.touched (last_of u drafts).touched (asks_change request) (list_any asks_change requests) left rest
  touched_by old [] [] (u ∷ drafts) steps is = absurd steps
  touched_by old [] (answer ∷ answers) drafts steps is = absurd steps
  touched_by old (request ∷ requests) [] drafts steps is = absurd steps
  touched_by old (request ∷ requests) (answer ∷ answers) [] steps is = absurd steps

  -- If a draft had no change, it is marked as changed after these requests exactly if one of them asks
  -- for a change.
  pub is_changed : (old new : Drafted D) (requests : List Request) (answers : List Reply) → old.touched ≡ Nothing → Plans facts old new requests answers
      → (new.touched ≡ Nothing) ↔ (list_any asks_change requests ≡ false)
  is_changed old new requests answers none plans =
      let both = touched_by old requests answers plans.run.0 plans.run.1 plans.accepted in
      subst (λ (u : Drafted D). (u.touched ≡ Nothing) ↔ (list_any asks_change requests ≡ false)) (sym plans.run.2)
      ((λ is. (both.0 is).1), (λ is. both.1 (none, is)))

apart_preloads : Preloads ≡ Nothing → ⊥
apart_preloads is = cc is

apart_listed : Listed ≡ Nothing → ⊥
apart_listed is = cc is

-- a commit of the draft makes the next state if a request asked for a change, and none otherwise
makes : (s d : State) (touched : Touched) (changes : Bool) → (touched ≡ Nothing) ↔ (changes ≡ false) → committed touched s d ≡ (if changes then next s d.libraries d.preloads else s)
makes s d Nothing false h = refl
makes s d Nothing true h = absurd (refuses (h.0 refl))
makes s d Preloads true h = refl
makes s d Preloads false h = absurd (apart_preloads (h.1 refl))
makes s d Listed true h = refl
makes s d Listed false h = absurd (apart_listed (h.1 refl))

-- no test refuses a change that a draft accepted
tested : (p p' : Phase) (request : Request) (answer : Reply) → PlanStep p request answer p' → is_refusal answer ≡ false → refusal_at p request ≡ None
tested p p' request Done step is = step.1
tested p p' request (Listing l) step is = step.1
tested p p' request (Bound image) step is = step.1
tested p p' request (Refused refusal) step is = absurd (refuses is)

-- after one request that isn't refused, each file is still a library
each_drafted : (p p' : Phase) (request : Request) (answer : Reply) → DraftStep p request answer p' → is_refusal answer ≡ false
    → All IsLibrary p.state.libraries → All IsLibrary (accepted p.state request).libraries
each_drafted p p' (install bytes) answer step is all = each_accepted p (install bytes) (tested p p' (install bytes) answer step is) all
each_drafted p p' (replace bytes) answer step is all = each_accepted p (replace bytes) (tested p p' (replace bytes) answer step is) all
each_drafted p p' (remove name) answer step is all = each_accepted p (remove name) (tested p p' (remove name) answer step is) all
each_drafted p p' (set_preloads names) answer step is all = all
each_drafted p p' (bind program base) answer step is all = all
each_drafted p p' list answer step is all = all

-- after several requests that aren't refused, each file is still a library
each_planned : (p : Phase) (requests : List Request) (answers : List Reply) (states : List Phase) → Steps DraftStep p requests answers states
    → All (λ (answer : Reply). is_refusal answer ≡ false) answers → All IsLibrary p.state.libraries → All IsLibrary (drafted_by p.state requests).libraries
each_planned p [] [] [] steps is all = all
each_planned p (request ∷ requests) (answer ∷ answers) (t ∷ states) steps is all =
    let accepts = All-head (λ (a : Reply). is_refusal a ≡ false) answer answers is in
    let led = accepted_step p t request answer steps.0 accepts in
    let after : All IsLibrary t.state.libraries =
    subst (λ (e : State). All IsLibrary e.libraries) (sym led.1.state) (each_drafted p t request answer steps.0 accepts all) in
    subst (λ (e : State). All IsLibrary (drafted_by e requests).libraries) led.1.state
    (each_planned t requests answers states steps.1 (All-tail (λ (a : Reply). is_refusal a ≡ false) answer answers is) after)
each_planned p [] [] (t ∷ states) steps is all = absurd steps
each_planned p [] (answer ∷ answers) states steps is all = absurd steps
each_planned p (request ∷ requests) [] states steps is all = absurd steps
each_planned p (request ∷ requests) (answer ∷ answers) [] steps is all = absurd steps

-- if each file is a library before the commit and in the draft, each file of the committed state is a
-- library
pub each_next : (s d : State) (changes : Bool) → All IsLibrary s.libraries → All IsLibrary d.libraries
    → All IsLibrary (if changes then next s d.libraries d.preloads else s).libraries
each_next s d true before after = after
each_next s d false before after = before

module _ {D : Type 0} (facts : D → DiskFacts) (s : State) where
  -- a draft that was just begun is at the current state
  pub begun_at : (store : Opened D) → (IsTrue (facts store.disk).honest → HoldsNow (facts store.disk)) → IsAt facts store s → IsDraftedAt facts (begun store) s s
  begun_at store holds at =
      let now = (facts store.disk).now in
      let stands = at.stands now (holds at.honest) in
      record {
        stands = at;
        spelt = stands.intact.listed.each;
        is = stands.is ∙ ap (λ (n : ℕ). draft_state now n store.entries (listed_preloads store.root)) (sym (ap (λ (t : State). t.generation) stands.is));
      }

  -- after a request that isn't refused, the draft is at the state after the request
  pub step_at : (old new : Drafted D) (d : State) (request : Request) (answer : Reply) → IsDraftedAt facts old s d → DraftAnswers facts old request answer new → is_refusal answer ≡ false
      → DraftStep (draft_phase facts old d) request answer (draft_phase facts new (drafted d (accepted d request))) × IsDraftedAt facts new s (drafted d (accepted d request))
  step_at old new d request answer at did is =
      let to = did.applied s d at in
      let d' = to.0 in
      let led = accepted_step (draft_phase facts old d) (draft_phase facts new d') request answer to.1.step is in
      let unfailed : IsTrue new.store.failed → ⊥ = λ (failed : IsTrue new.store.failed). refuses (sym failed ∙ led.1.failed ∙ led.0) in
      let kept : IsDraftedAt facts new s d' = ⊎_elim (λ (k : IsDraftedAt facts new s d'). k) (λ (k : IsTrue new.store.failed × (d' ≡ d)). absurd (unfailed k.0)) to.1.kept in (
        subst (λ (e : State). DraftStep (draft_phase facts old d) request answer (draft_phase facts new e)) led.1.state to.1.step,
        subst (IsDraftedAt facts new s) led.1.state kept,
      )

  -- requests that aren't refused are steps of the table, one after the other
  requested : (old : Drafted D) (d : State) (requests : List Request) (answers : List Reply) (drafts : List (Drafted D)) → IsDraftedAt facts old s d → Steps (DraftAnswers facts) old requests answers drafts
      → All (λ (answer : Reply). is_refusal answer ≡ false) answers
      → Run DraftStep (draft_phase facts old d) requests answers (draft_phase facts (last_of old drafts) (drafted_by d requests))
      × IsDraftedAt facts (last_of old drafts) s (drafted_by d requests)
  requested old d [] [] [] at steps is = (([], tt, refl), at)
  requested old d (request ∷ requests) (answer ∷ answers) (u ∷ drafts) at steps is =
      let first = step_at old u d request answer at steps.0 (All-head (λ (a : Reply). is_refusal a ≡ false) answer answers is) in
      let e = drafted d (accepted d request) in
      let rest = requested u e requests answers drafts first.1 steps.1 (All-tail (λ (a : Reply). is_refusal a ≡ false) answer answers is) in
      ((draft_phase facts u e ∷ rest.0.0, (first.0, rest.0.1), rest.0.2), rest.1)
  requested old d [] [] (u ∷ drafts) at steps is = absurd steps
  requested old d [] (answer ∷ answers) drafts at steps is = absurd steps
  requested old d (request ∷ requests) [] drafts at steps is = absurd steps
  requested old d (request ∷ requests) (answer ∷ answers) [] at steps is = absurd steps

  -- while the requests are answered, the disk holds the current state
  answered_moment : (old : Drafted D) (d : State) (requests : List Request) (answers : List Reply) (drafts : List (Drafted D)) → IsDraftedAt facts old s d → Steps (DraftAnswers facts) old requests answers drafts
      → All (λ (answer : Reply). is_refusal answer ≡ false) answers → LeavesOnly (facts old.store.disk) (facts (last_of old drafts).store.disk) (λ m. Stands m s)
  answered_moment old d [] [] [] at steps is = at_rest (facts old.store.disk) (λ m. Stands m s) (λ m mixture. (old.store.root, old.store.entries, at.stands.stands m mixture))
  answered_moment old d (request ∷ requests) (answer ∷ answers) (u ∷ drafts) at steps is =
      let first = step_at old u d request answer at steps.0 (All-head (λ (a : Reply). is_refusal a ≡ false) answer answers is) in
      goes_on (λ m. Stands m s) (steps.0.applied s d at).1.any_moment
      (answered_moment u (drafted d (accepted d request)) requests answers drafts first.1 steps.1 (All-tail (λ (a : Reply). is_refusal a ≡ false) answer answers is))
  answered_moment old d [] [] (u ∷ drafts) at steps is = absurd steps
  answered_moment old d [] (answer ∷ answers) drafts at steps is = absurd steps
  answered_moment old d (request ∷ requests) [] drafts at steps is = absurd steps
  answered_moment old d (request ∷ requests) (answer ∷ answers) [] at steps is = absurd steps

  pub plans_moment : (old new : Drafted D) (requests : List Request) (answers : List Reply) → IsDraftedAt facts old s s → Plans facts old new requests answers
      → LeavesOnly (facts old.store.disk) (facts new.store.disk) (λ m. Stands m s)
  plans_moment old new requests answers at plans =
      subst (λ (u : Drafted D). LeavesOnly (facts old.store.disk) (facts u.store.disk) (λ m. Stands m s)) (sym plans.run.2)
      (answered_moment old s requests answers plans.run.0 at plans.run.1 plans.accepted)

  -- requests that aren't refused are an update
  pub is_update : (old new : Drafted D) (requests : List Request) (answers : List Reply) → old.touched ≡ Nothing → IsDraftedAt facts old s s → Plans facts old new requests answers
      → IsUpdate facts old new s requests answers
  is_update old new requests answers none at plans =
      let so = requested old s requests answers plans.run.0 at plans.run.1 plans.accepted in
      let is = sym plans.run.2 in record {
        run = subst (λ (k : Drafted D). Run DraftStep (draft_phase facts old s) requests answers (draft_phase facts k (drafted_by s requests))) is so.0;
        at = subst (λ (k : Drafted D). IsDraftedAt facts k s (drafted_by s requests)) is so.1;
        libraries = each_planned (draft_phase facts old s) requests answers so.0.0 so.0.1 plans.accepted;
        made = makes s (drafted_by s requests) new.touched (list_any asks_change requests) (is_changed facts old new requests answers none plans);
      }
