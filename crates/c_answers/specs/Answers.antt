-- The contents of the buffers and the answer after each call (own).
use Rattle.std.specs.Prelude.{◌≡◌, ◌≢◌, ◌⊎◌, ◌<◌, ◌^◌, ◌-◌, ℕ, List, length, take, min}
use Rattle.byte_disk.specs.declared.step.Step.{Step}
use Rattle.states.specs.State.{State}
use Rattle.store.specs.Stands as sectors
use Rattle.store.specs.declared.refusal.StoreRefusal.{StoreRefusal}
use Rattle.store.specs.declared.refusal.StoreRefusal.TheVariants as store
use Rattle.requests.specs.Request.{Request, list, set_preloads}
use Rattle.requests.specs.declared.refusal.Refusal.TheVariants.{Device}
use Rattle.requests.specs.Table.{Listed}
use Rattle.requests.specs.Step.{accepted}
use Rattle.requests.specs.declared.reply.Reply.{Reply}
use Rattle.requests.specs.declared.reply.Reply.TheVariants as reply
use Rattle.requests.specs.declared.reply.Reply.TheVariants.{Refused}
use Rattle.program_parts.specs.Refusal.{disk_refusal_text, memory_text}
use Rattle.program_parts.specs.Reply.{reply_text}
use Rattle.byte_disk.specs.Bytes.{sectors_in}
use Rattle.c_answers.specs.declared.answer.Answer.{Answer}
use Rattle.byte_registry.specs.Bytes.{HoldStore}
use Rattle.registry.specs.Stands.{Stands}
use Rattle.byte_registry.specs.Asked.{IsAsked, IsUnopened, IsFormatted, IsUnformatted, IsUpgraded, IsUnupgraded}
use Rattle.c_answers.specs.declared.place.SegmentPlace.{SegmentPlace}
use Rattle.c_answers.specs.declared.object.ObjectPlace.{ObjectPlace}
use Rattle.c_answers.specs.declared.entry.EntryPlace.{EntryPlace}
use Rattle.c_answers.specs.Buffers.{IsImageGiven}
use Rattle.c_answers.specs.Listing.{Counts, AreListed, LackSpace, entries_of}
use Rattle.c_answers.specs.Names.{AreNames}
use Rattle.c_answers.specs.Numbers.{done, no_room, bad_argument, out_of_memory, store_number, reply_number, file_number_in}
use Rattle.byte_registry.specs.Plans.{Holds, LeadsTo}
use Rattle.c_answers.specs.Spelling.{plan_bytes}
use Rattle.c_answers.specs.Unsaid.{IsSilent, IsUnbound, IsUncounted, IsUnlisted}

-- The buffer `text` has the first bytes of `whole`, as many as fit. The length of `whole` is
-- reported.
pub record HasText (whole text : List ℕ) (told_size : ℕ) : Type 0 where
  pub size : told_size ≡ length whole
  pub begins : take (length whole) text ≡ take (length text) whole

-- The call reports that memory was refused.
pub record WantsMemory (text : List ℕ) (told_size told_file told : ℕ) : Type 0 where
  pub status : told ≡ out_of_memory
  pub file : told_file ≡ 0
  pub has_text : HasText memory_text text told_size

-- The call reports the reply: the reply's status, the number of the test that refuses a file, and
-- the reply's text. S1 (Device) is never reported, because a call of a disk of bytes fails only if
-- memory is refused.
pub record Tells (reply : Reply) (text : List ℕ) (told_size told_file told : ℕ) : Type 0 where
  pub status : told ≡ reply_number reply
  pub file : told_file ≡ file_number_in reply
  pub has_text : HasText (reply_text reply) text told_size
  pub device : reply ≢ Refused Device

-- The call reports why there is no registry, and the reason is never S1 (Device).
pub record TurnsAway (refusal : StoreRefusal) (text : List ℕ) (told_size told_file told : ℕ) : Type 0 where
  pub status : told ≡ store_number refusal
  pub file : told_file ≡ 0
  pub has_text : HasText (disk_refusal_text refusal) text told_size
  pub device : refusal ≢ store.Device

-- The plan's buffer has these steps. The answer has the number of steps and the number of bytes
-- that encode them.
pub record HasPlan (steps : List Step) (buffer : List ℕ) (told_bytes told_count : ℕ) : Type 0 where
  pub bytes : told_bytes ≡ length (plan_bytes steps)
  pub spelled : take told_bytes buffer ≡ plan_bytes steps
  pub count : told_count ≡ length steps

-- The plan's buffer is too small for these steps. The answer has the number of steps and the number
-- of bytes that encode them.
pub record LacksRoom (steps : List Step) (buffer : List ℕ) (told_bytes told_count told : ℕ) : Type 0 where
  pub status : told ≡ no_room
  pub small : length buffer < length (plan_bytes steps)
  pub needed : told_bytes ≡ min (length (plan_bytes steps)) (2 ^ 64 - 1)
  pub count : told_count ≡ length steps

-- the reply is reported, or memory for the report was refused
abbrev pub IsTold : Reply → List ℕ → Answer → ℕ → Type 0
IsTold reply text answer status = Tells reply text answer.text answer.file_refusal status ⊎ WantsMemory text answer.text answer.file_refusal status

-- the reply is reported, or memory for the report was refused; all counts are 0
abbrev pub IsToldAlone : Reply → List ℕ → Answer → ℕ → Type 0
IsToldAlone reply text answer status = IsTold reply text answer status × IsUncounted answer

-- the call reports why there is no registry, or memory for the report was refused; all counts are 0
abbrev pub IsTurnedAway : StoreRefusal → List ℕ → Answer → ℕ → Type 0
IsTurnedAway refusal text answer status =
    (TurnsAway refusal text answer.text answer.file_refusal status ⊎ WantsMemory text answer.text answer.file_refusal status) × IsUncounted answer

-- the buffer has the steps and Done is reported, or the buffer is too small
abbrev pub IsPlanned : List Step → List ℕ → List ℕ → Answer → ℕ → Type 0
IsPlanned steps plan text answer status =
    ((HasPlan steps plan answer.bytes answer.count × IsTold reply.Done text answer status)
    ⊎ (LacksRoom steps plan answer.bytes answer.count status × IsSilent answer))
    × IsUnlisted answer × IsUnbound answer

-- the buffer is unchanged, unless the status is done, no_room or out_of_memory
abbrev pub IsLeft : List ℕ → List ℕ → ℕ → Type 0
IsLeft old new status = status ≢ done → status ≢ no_room → status ≢ out_of_memory → new ≡ old

-- The buffer has the plan of a change of the registry that the bytes hold. The plan leads from the
-- registry's state to the state after the accepted change. If each file of the registry was a
-- library before the plan, each file is a library after it. The bytes hold no other state.
pub record IsPlanOf (bytes : List ℕ) (request : Request) (buffer : List ℕ) (answer : Answer) : Type 0 where
  pub state : State
  pub steps : List Step
  pub holds : HoldStore bytes state
  pub only : (other : State) → HoldStore bytes other → other ≡ state
  pub leads : LeadsTo sectors.Stands (sectors_in bytes) state (accepted state request) steps
  pub registry : Holds bytes state → LeadsTo Stands (sectors_in bytes) state (accepted state request) steps
  pub plan : HasPlan steps buffer answer.bytes answer.count

-- the report of a reply to a change
abbrev pub IsChangeTold : Reply → List Step → List ℕ → List ℕ → Answer → ℕ → Type 0
IsChangeTold reply.Done steps plan text answer status = IsPlanned steps plan text answer status
IsChangeTold other steps plan text answer status = IsToldAlone other text answer status

-- A change was requested of the registry that the bytes hold, and its reply is reported; or there
-- is no registry, and the call reports why.
abbrev pub IsChangeAnswered : List ℕ → Request → List ℕ → List ℕ → Answer → ℕ → Type 0
IsChangeAnswered bytes request plan text answer status =
    ((s : State) × (reply : Reply) × (steps : List Step) × IsAsked bytes s request reply steps × IsChangeTold reply steps plan text answer status)
    ⊎ ((refusal : StoreRefusal) × IsUnopened bytes refusal × IsTurnedAway refusal text answer status)

-- the report of a reply to a bind
abbrev pub IsBindTold : Reply → List ObjectPlace → List SegmentPlace → List ℕ → List ℕ → Answer → ℕ → Type 0
IsBindTold (reply.Bound image) objects segments bytes text answer status = IsImageGiven image objects segments bytes answer status
IsBindTold other objects segments bytes text answer status = IsToldAlone other text answer status

-- A bind was requested of the registry that the bytes hold, and its reply is reported; or there is
-- no registry, and the call reports why.
abbrev pub IsBindAnswered : List ℕ → Request → List ObjectPlace → List SegmentPlace → List ℕ → List ℕ → Answer → ℕ → Type 0
IsBindAnswered disk request objects segments bytes text answer status =
    ((s : State) × (reply : Reply) × (steps : List Step) × IsAsked disk s request reply steps × IsBindTold reply objects segments bytes text answer status)
    ⊎ ((refusal : StoreRefusal) × IsUnopened disk refusal × IsTurnedAway refusal text answer status)

-- The buffer has the plan of an empty registry on a disk with these bytes.
pub record IsFormatPlan (bytes buffer : List ℕ) (answer : Answer) : Type 0 where
  pub steps : List Step
  pub formatted : IsFormatted bytes steps
  pub plan : HasPlan steps buffer answer.bytes answer.count

-- an empty registry is planned, and the buffer has the plan or is too small; or the call reports
-- why no registry is planned
abbrev pub IsFormatAnswered : List ℕ → List ℕ → List ℕ → Answer → ℕ → Type 0
IsFormatAnswered bytes plan text answer status =
    ((steps : List Step) × IsFormatted bytes steps × IsPlanned steps plan text answer status)
    ⊎ ((refusal : StoreRefusal) × IsUnformatted bytes refusal × IsTurnedAway refusal text answer status)

-- The buffer has the plan of an upgrade of the registry that these bytes hold.
pub record IsUpgradePlan (bytes buffer : List ℕ) (answer : Answer) : Type 0 where
  pub state : State
  pub steps : List Step
  pub upgraded : IsUpgraded bytes state steps
  pub plan : HasPlan steps buffer answer.bytes answer.count

-- an upgrade is planned, and the buffer has the plan or is too small; or the call reports why no
-- upgrade is planned
abbrev pub IsUpgradeAnswered : List ℕ → List ℕ → List ℕ → Answer → ℕ → Type 0
IsUpgradeAnswered bytes plan text answer status =
    ((s : State) × (steps : List Step) × IsUpgraded bytes s steps × IsPlanned steps plan text answer status)
    ⊎ ((refusal : StoreRefusal) × IsUnupgraded bytes refusal × IsTurnedAway refusal text answer status)

-- the buffers have the listing and the reply is reported, or a buffer is too small
abbrev pub IsListGiven : Listed → List EntryPlace → List ℕ → List ℕ → Answer → ℕ → Type 0
IsListGiven l entries names text answer status = (Counts l answer.count answer.preloads × IsUnbound answer)
    × ((AreListed (entries_of l) entries names answer.bytes × IsTold (reply.Listing l) text answer status)
    ⊎ ((status ≡ no_room) × LackSpace (entries_of l) entries names answer.bytes × IsSilent answer))

-- the report of a reply to a listing; if the reply is a listing, the generation is reported too
abbrev pub IsListTold : State → Reply → List EntryPlace → List ℕ → List ℕ → Answer → ℕ → Type 0
IsListTold s (reply.Listing l) entries names text answer status = IsListGiven l entries names text answer status × (answer.generation ≡ s.generation)
IsListTold s other entries names text answer status = IsToldAlone other text answer status

-- A listing was requested of the registry that the bytes hold, and its reply is reported; or there
-- is no registry, and the call reports why.
abbrev pub IsListAnswered : List ℕ → List EntryPlace → List ℕ → List ℕ → Answer → ℕ → Type 0
IsListAnswered disk entries names text answer status =
    ((s : State) × (reply : Reply) × (steps : List Step) × IsAsked disk s list reply steps × IsListTold s reply entries names text answer status)
    ⊎ ((refusal : StoreRefusal) × IsUnopened disk refusal × IsTurnedAway refusal text answer status)

-- The argument has names in a row, and the answer is that of a change to these preloads; or the
-- argument doesn't have this form; or memory was refused.
abbrev pub IsPreloadAnswered : List ℕ → List ℕ → List ℕ → List ℕ → Answer → ℕ → Type 0
IsPreloadAnswered disk names plan text answer status =
    ((list : List (List ℕ)) × AreNames list names × IsChangeAnswered disk (set_preloads list) plan text answer status)
    ⊎ ((status ≡ bad_argument) × ((list : List (List ℕ)) → AreNames list names → ⊥) × IsUncounted answer × IsSilent answer)
    ⊎ (WantsMemory text answer.text answer.file_refusal status × IsUncounted answer)
