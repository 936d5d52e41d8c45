-- The effect of events on a registry with binders (own).
use Rattle.std.specs.Prelude.{◌≡◌, ◌⊎◌, ℕ, List, Ok, Err}
use Rattle.sector_disk.specs.Disk.{DiskFacts, AreCallsExactly}
use Rattle.states.specs.State.{State}
use Rattle.requests.specs.Request.{Request, request_of}
use Rattle.requests.specs.declared.refusal.Refusal.{Refusal}
use Rattle.requests.specs.declared.reply.Reply.{Reply}
use Rattle.requests.specs.declared.reply.Reply.TheVariants.{Refused}
use Rattle.registry.specs.Answered.{Answered}
use Rattle.registry.specs.Applied.{Applies}
use Rattle.registry.specs.Calls.{IfAccepted, calls_of}
use Rattle.registry.specs.Opened.{IsAt}
use Rattle.registry.specs.declared.binder.Step.TheVariants as step
use Rattle.binders.specs.Counted.{CountsOnce}
use Rattle.binders.specs.Slotted.{HoldAlone, Slotted}
use Rattle.binders.specs.Stepped.{AdvancesIn, BeginsIn, CancelsIn, FlyOn}
use Rattle.binders.specs.declared.event.Event.{Event}
use Rattle.binders.specs.declared.event.Event.TheVariants as event
use Rattle.binders.specs.declared.event.EventReply.{EventReply}
use Rattle.binders.specs.declared.event.EventReply.TheVariants.{Replied, Slot, Going}

-- an event as a plain value, because an `Event` borrows its bytes
pub data Happening : Type 0 where
  apply : Request → Happening
  -- the bytes of a program's file, and the base address
  begin : List ℕ → ℕ → Happening
  -- the slot of a binder
  advance : ℕ → Happening
  cancel : ℕ → Happening

-- the plain value of an event
abbrev pub happening_of : Event → Happening
happening_of (event.Apply command) = apply (request_of command)
happening_of (event.Begin program base) = begin program.now base
happening_of (event.Advance slot) = advance slot
happening_of (event.Cancel slot) = cancel slot

-- A command was applied to a registry with any binders. The binders stay on their flights.
pub record AppliesIn {D : Type 0} (facts : D → DiskFacts) (old new : Slotted D) (request : Request) (answer : Reply) : Type 0 where
  pub applied : (s : State) → IsAt facts old.registry s → Applies facts old.registry new.registry s request answer
  pub all_calls : (s : State) → IsAt facts old.registry s
      → IfAccepted answer (AreCallsExactly (calls_of s request) (facts old.registry.disk) (facts new.registry.disk))
  pub on_any_disk : Answered facts old.registry new.registry request answer
  pub fly_on : FlyOn facts old new
  pub slots : new.slots ≡ old.slots
  pub alone : HoldAlone old → HoldAlone new
  pub counted : HoldAlone old → CountsOnce old

-- the step of the binder in `slot` was answered with `answer`: the last answer of the binder, or a
-- refusal
abbrev pub StepReplies : {D : Type 0} → (D → DiskFacts) → Slotted D → Slotted D → ℕ → Reply → Type 0
StepReplies facts old new slot answer = AdvancesIn facts old new slot (Ok (step.Final answer))
    ⊎ ((refusal : Refusal) × (answer ≡ Refused refusal) × AdvancesIn facts old new slot (Err refusal))

-- the event was answered with this reply, and had the effect of the call that carries out events of its
-- kind
abbrev pub Happens : {D : Type 0} → (D → DiskFacts) → Slotted D → Slotted D → Happening → EventReply → Type 0
Happens facts old new (apply request) (Replied answer) = AppliesIn facts old new request answer
Happens facts old new (begin program base) (Slot slot) = BeginsIn facts old new program base (Ok slot)
Happens facts old new (begin program base) (Replied (Refused refusal)) = BeginsIn facts old new program base (Err refusal)
Happens facts old new (advance slot) Going = AdvancesIn facts old new slot (Ok step.Going)
Happens facts old new (advance slot) (Replied answer) = StepReplies facts old new slot answer
Happens facts old new (cancel slot) (Replied answer) = CancelsIn facts old new slot answer
Happens facts old new happening reply = ⊥
