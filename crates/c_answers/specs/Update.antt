-- The contents of the buffers and the answer after a call that plans an update (own).
use Rattle.std.specs.Prelude.{◌≡◌, ◌⊎◌, ℕ, List, Result, Ok, Err}
use Rattle.byte_disk.specs.declared.disk.ByteDisk.{ByteDisk}
use Rattle.byte_disk.specs.declared.step.Step.{Step}
use Rattle.byte_disk.specs.Bytes.{sectors_in}
use Rattle.states.specs.State.{State}
use Rattle.store.specs.Stands as sectors
use Rattle.store.specs.declared.refusal.StoreRefusal.{StoreRefusal}
use Rattle.requests.specs.Request.{Request}
use Rattle.requests.specs.declared.refusal.Refusal.{Refusal}
use Rattle.requests.specs.declared.reply.Reply.TheVariants.{Refused}
use Rattle.registry.specs.Stands.{Stands}
use Rattle.registry.specs.Updating.{updated}
use Rattle.byte_registry.specs.Asked.{IsUnopened}
use Rattle.byte_registry.specs.Bytes.{HoldStore}
use Rattle.byte_registry.specs.Plans.{Holds, LeadsTo, synced_plan}
use Rattle.byte_registry.specs.Updated.{IsUpdateAsked}
use Rattle.c_answers.specs.declared.answer.Answer.{Answer}
use Rattle.c_answers.specs.declared.change_place.ChangePlace.{ChangePlace}
use Rattle.c_answers.specs.Answers.{HasPlan, IsPlanned, IsTold, IsTurnedAway, WantsMemory}
use Rattle.c_answers.specs.Changes.{Mean}
use Rattle.c_answers.specs.Numbers.{bad_argument}
use Rattle.c_answers.specs.Unsaid.{IsSilent, IsUnbound, IsUncounted, IsUnlisted}

-- The buffer has the plan of an update of the registry that the bytes hold. The plan leads from the
-- registry's state to the state after all requests. If each file of the registry was a library
-- before the plan, each file is a library after it. The bytes hold no other state.
pub record IsUpdatePlan (bytes : List ℕ) (requests : List Request) (buffer : List ℕ) (answer : Answer) : Type 0 where
  pub state : State
  pub steps : List Step
  pub holds : HoldStore bytes state
  pub only : (other : State) → HoldStore bytes other → other ≡ state
  pub leads : LeadsTo sectors.Stands (sectors_in bytes) state (updated state requests) steps
  pub registry : Holds bytes state → LeadsTo Stands (sectors_in bytes) state (updated state requests) steps
  pub plan : HasPlan steps buffer answer.bytes answer.count

-- A request of an update is refused. The answer reports the refusal in the same way as that of a
-- single request, and the number of requests before the refused one.
pub record IsRefusedTold (before : ℕ) (refusal : Refusal) (text : List ℕ) (answer : Answer) (status : ℕ) : Type 0 where
  pub why : IsTold (Refused refusal) text answer status
  pub count : answer.count ≡ before
  pub bytes : answer.bytes ≡ 0
  pub unlisted : IsUnlisted answer
  pub unbound : IsUnbound answer

-- the report of the answer to an update
abbrev pub IsUpdateTold : Result (Unit {0}) (ℕ × Refusal) → List Step → List ℕ → List ℕ → Answer → ℕ → Type 0
IsUpdateTold (Ok done) steps plan text answer status = IsPlanned steps plan text answer status
IsUpdateTold (Err refused) steps plan text answer status = IsRefusedTold refused.0 refused.1 text answer status

-- An update was requested of the registry on a disk with these bytes, and the registry's answer is
-- reported, with the plan of the disk; or there is no registry, and the call reports why.
abbrev pub IsAskedTold : List ℕ → List Request → List ℕ → List ℕ → Answer → ℕ → Type 0
IsAskedTold disk requests plan text answer status =
    ((s : State) × (asked : Result (Unit {0}) (ℕ × Refusal)) × (left : ByteDisk) × IsUpdateAsked disk s requests asked left × IsUpdateTold asked (synced_plan left) plan text answer status)
    ⊎ ((refusal : StoreRefusal) × IsUnopened disk refusal × IsTurnedAway refusal text answer status)

-- `IsAskedTold` holds, or memory for the requests was refused
abbrev pub IsAskedOrMemory : List ℕ → List Request → List ℕ → List ℕ → Answer → ℕ → Type 0
IsAskedOrMemory disk requests plan text answer status =
    IsAskedTold disk requests plan text answer status
    ⊎ (WantsMemory text answer.text answer.file_refusal status × IsUncounted answer)

-- An update with the requests of the changes was requested of the registry; or a change isn't
-- valid; or memory was refused.
abbrev pub IsUpdateAnswered : List ℕ → List ChangePlace → List ℕ → List ℕ → List ℕ → Answer → ℕ → Type 0
IsUpdateAnswered disk changes bytes plan text answer status =
    ((requests : List Request) × Mean bytes changes requests × IsAskedTold disk requests plan text answer status)
    ⊎ ((status ≡ bad_argument) × ((requests : List Request) → Mean bytes changes requests → ⊥) × IsUncounted answer × IsSilent answer)
    ⊎ (WantsMemory text answer.text answer.file_refusal status × IsUncounted answer)
