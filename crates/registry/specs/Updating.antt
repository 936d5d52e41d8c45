-- An update: requests to a draft of the current state, all of which were accepted (own).
use Rattle.std.specs.Prelude.{◌≡◌, List, [], ◌∷◌, Bool, true, false, if◌then◌else◌, All}
use Rattle.std.specs.List.{list_any}
use Rattle.sector_disk.specs.Disk.{DiskFacts}
use Rattle.states.specs.Changes.{next}
use Rattle.states.specs.State.{State}
use Rattle.store.specs.Draft.{Drafted, IsDraftedAt, committed, drafted}
use Rattle.requests.specs.Library.{IsLibrary}
use Rattle.requests.specs.Request.{Request, bind, list}
use Rattle.requests.specs.Runs.{Run}
use Rattle.requests.specs.Step.{accepted}
use Rattle.requests.specs.declared.reply.Reply.{Reply}
use Rattle.requests.specs.declared.reply.Reply.TheVariants.{Refused}
use Rattle.registry.specs.Drafting.{AnsweredDraft, AppliesDraft, DraftStep, IsBoundBeside, draft_phase}

-- the request is for a change
abbrev pub asks_change : Request → Bool
asks_change (bind program base) = false
asks_change list = false
asks_change request = true

-- the reply is a refusal
abbrev pub is_refusal : Reply → Bool
is_refusal (Refused refusal) = true
is_refusal reply = false

-- the state of a draft at state d after requests that were accepted one after the other; its
-- generation is that of d
abbrev pub drafted_by : State → List Request → State
drafted_by d [] = d
drafted_by d (request ∷ requests) = drafted_by (drafted d (accepted d request)) requests

-- The state to which an update leads from the current state s: the state after its requests, with
-- the next generation, or s if no request is for a change.
abbrev pub updated : State → List Request → State
updated s requests = if list_any asks_change requests then next s (drafted_by s requests).libraries (drafted_by s requests).preloads else s

-- A request to a draft was answered with `answer`. If the current state is known, the step table
-- determines the answer. On any disk, `AnsweredDraft` holds.
pub record DraftAnswers {D : Type 0} (facts : D → DiskFacts) (old : Drafted D) (request : Request) (answer : Reply) (new : Drafted D) : Type 0 where
  pub applied : (s d : State) → IsDraftedAt facts old s d → AppliesDraft facts old new s d request answer
  pub on_any_disk : AnsweredDraft facts old new request answer
  -- a bind makes at most as many calls as a bind over the draft's state needs, and writes nothing
  pub bound : (s d : State) → IsDraftedAt facts old s d → IsBoundBeside facts old new d request answer

-- Requests were answered one after the other, no request was refused, and they changed the draft
-- from `old` to `new`.
pub record Plans {D : Type 0} (facts : D → DiskFacts) (old new : Drafted D) (requests : List Request) (answers : List Reply) : Type 0 where
  pub run : Run (DraftAnswers facts) old requests answers new
  pub accepted : All (λ answer. is_refusal answer ≡ false) answers

-- The step table determined the answers to the requests, which were made one after the other to a
-- draft of the current state s. The draft is at the state after all of them, and s is still
-- current.
pub record IsUpdate {D : Type 0} (facts : D → DiskFacts) (old new : Drafted D) (s : State) (requests : List Request) (answers : List Reply) : Type 0 where
  pub run : Run DraftStep (draft_phase facts old s) requests answers (draft_phase facts new (drafted_by s requests))
  pub at : IsDraftedAt facts new s (drafted_by s requests)
  -- if each file of the current state is a library, so is each file of the draft
  pub libraries : All IsLibrary s.libraries → All IsLibrary (drafted_by s requests).libraries
  -- a commit of the draft leads to the state that `updated` defines
  pub made : committed new.touched s (drafted_by s requests) ≡ updated s requests
