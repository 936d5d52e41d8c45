-- The effect of an update's commands on its draft. The draft is the state that the update has
-- planned so far. No sectors hold this state before the commit (own).
use Rattle.std.specs.Prelude.{◌≡◌, ◌≢◌, ◌⊎◌, ◌<◌, ◌↔◌, ℕ, List, IsTrue, IsFalse, None}
use Rattle.sector_disk.specs.Disk.{DiskFacts, AreCalls, AreCallsAtMost, AreCallsExactly, IsUnchanged, LeavesOnly}
use Rattle.states.specs.State.{State}
use Rattle.store.specs.Draft.{Drafted, IsDraftedAt, IsSameDraft, StaysBeside, beside, drafted, longest_drafted}
use Rattle.store.specs.Stands.{Stands}
use Rattle.store.specs.declared.draft.Touched.TheVariants.{Nothing}
use Rattle.requests.specs.Phase.{Phase}
use Rattle.requests.specs.Request.{Request, bind, list}
use Rattle.requests.specs.Step.{Step, Leads, accepted, refusal_at}
use Rattle.requests.specs.declared.refusal.Refusal.TheVariants.{Device, Reopen}
use Rattle.requests.specs.declared.reply.Reply.{Reply}
use Rattle.requests.specs.declared.reply.Reply.TheVariants.{Done, Refused}
use Rattle.registry.specs.Answered.{IsAnswerTo}
use Rattle.registry.specs.Binding.{IfBound, bind_sectors}
use Rattle.registry.specs.Untested.{UntestedStep}

-- The phase of a draft, for the step table. `lone` counts the sectors in use that don't belong to
-- the draft's state: those of current entries that aren't in the draft, and those that only binders
-- hold. If the current list has more catalogues than the draft needs, each additional catalogue
-- counts as two sectors.
abbrev pub draft_phase : {D : Type 0} → (D → DiskFacts) → Drafted D → State → Phase
draft_phase facts u d = record {
  sectors = (facts u.store.disk).sectors;
  lone = beside u;
  longest = longest_drafted u;
  failures = (facts u.store.disk).failures;
  failed = u.store.failed;
  state = d;
}

-- The tests accept the library, but a write of its file failed. The draft is unchanged, and the
-- answer to every later request is S2.
pub record LosesDraft (p : Phase) (request : Request) (p' : Phase) : Type 0 where
  pub sectors : p'.sectors ≡ p.sectors
  pub risen : p.failures < p'.failures
  pub failed : IsTrue p'.failed
  pub untested : refusal_at p request ≡ None
  pub state : p'.state ≡ p.state

-- The possible answers to a change of a draft. The step table tests the change. An accepted change
-- is planned: the draft then includes the change, and keeps the generation of the current state.
abbrev pub PlanStep : Phase → Request → Reply → Phase → Type 0
PlanStep p request (Refused Device) p' = IsFalse p.failed × LosesDraft p request p'
PlanStep p request (Refused refusal) p' = Step p request (Refused refusal) p'
PlanStep p request answer p' =
    IsFalse p.failed × (refusal_at p request ≡ None) × (answer ≡ Done) × Leads p (drafted p.state (accepted p.state request)) p'

-- The possible answers to a command of an update. A listing is a step of the step table in the
-- draft's state, a bind is a step of `UntestedStep`, and a change is planned.
abbrev pub DraftStep : Phase → Request → Reply → Phase → Type 0
DraftStep p (bind program base) answer p' = UntestedStep p (bind program base) answer p'
DraftStep p list answer p' = Step p list answer p'
DraftStep p request answer p' = PlanStep p request answer p'

-- The command was answered with `answer`, and changed the draft's state from d to d'. At every moment
-- the disk holds the current state s.
pub record AppliedDraft {D : Type 0} (facts : D → DiskFacts) (old new : Drafted D) (s d d' : State) (request : Request) (answer : Reply) : Type 0 where
  pub step : DraftStep (draft_phase facts old d) request answer (draft_phase facts new d')
  pub any_moment : LeavesOnly (facts old.store.disk) (facts new.store.disk) (λ m. Stands m s)
  -- at the end the draft is at d'; or a write failed, and d' equals d
  pub kept : IsDraftedAt facts new s d' ⊎ (IsTrue new.store.failed × (d' ≡ d))

-- `AppliedDraft` holds for some state of the draft after the command
abbrev pub AppliesDraft : {D : Type 0} → (D → DiskFacts) → Drafted D → Drafted D → State → State → Request → Reply → Type 0
AppliesDraft facts old new s d request answer = (d' : State) × AppliedDraft facts old new s d d' request answer

-- A program was bound with a draft at state d. Each library that the program needs was read at most
-- once, and exactly once if the answer is an image. No other library was read, and nothing was
-- written.
pub record ReadsForBind {D : Type 0} (facts : D → DiskFacts) (old new : Drafted D) (d : State) (program : List ℕ) (answer : Reply) : Type 0 where
  pub unchanged : IsUnchanged (facts old.store.disk) (facts new.store.disk)
  pub most_calls : AreCallsAtMost (bind_sectors d program) (facts old.store.disk) (facts new.store.disk)
  pub all_calls : IfBound answer (AreCallsExactly (bind_sectors d program) (facts old.store.disk) (facts new.store.disk))

-- if the request is a bind, it made only the calls that `ReadsForBind` allows
abbrev pub IsBoundBeside : {D : Type 0} → (D → DiskFacts) → Drafted D → Drafted D → State → Request → Reply → Type 0
IsBoundBeside facts old new d (bind program base) answer = ReadsForBind facts old new d program answer
IsBoundBeside facts old new d request answer = Unit {0}

-- The draft after a command. A refused command, a bind and a listing leave the draft unchanged. A
-- planned change marks the draft as changed.
abbrev pub LeavesDraft : {D : Type 0} → Drafted D → Drafted D → Request → Reply → Type 0
LeavesDraft old new request (Refused refusal) = IsSameDraft old new
LeavesDraft old new (bind program base) answer = IsSameDraft old new
LeavesDraft old new list answer = new ≡ old
LeavesDraft old new request answer = new.touched ≢ Nothing

-- A command of an update was answered with `answer`, on any disk.
pub record AnsweredDraft {D : Type 0} (facts : D → DiskFacts) (old new : Drafted D) (request : Request) (answer : Reply) : Type 0 where
  -- The answer is S2 if and only if an earlier write failed. In this case the command does nothing,
  -- and the update can only be given up.
  pub reopen : (answer ≡ Refused Reopen) ↔ IsTrue old.store.failed
  pub failed : IsTrue old.store.failed → new ≡ old
  -- the answer is S1 only if a call of the disk failed
  pub device : answer ≡ Refused Device → (facts old.store.disk).failures < (facts new.store.disk).failures
  pub answers : IsAnswerTo request answer
  -- the current state and the held byte strings stay unchanged
  pub beside : StaysBeside facts old new
  pub leaves : LeavesDraft old new request answer
  pub calls : AreCalls (facts old.store.disk) (facts new.store.disk)
