-- The effect of beginning, advancing and ending a binder in a slot (own).
use Rattle.std.specs.Prelude.{◌≡◌, ◌≢◌, ◌↔◌, ◌⊎◌, ◌<◌, ◌+◌, ℕ, List, slice_index_or}
use Rattle.std.specs.Prelude.{slice_set, Option, Some, None, Result, Ok, Err, IfOk, IfErr, OnErr, IsTrue, IsFalse}
use Rattle.sector_disk.specs.Disk.{DiskFacts, Mixture, IsUnchanged, LeavesOnly, AreCalls, AreCallsAtMost, AreCallsExactly}
use Rattle.states.specs.State.{State}
use Rattle.store.specs.Holds.{holders_of}
use Rattle.requests.specs.declared.refusal.Refusal.{Refusal}
use Rattle.requests.specs.declared.refusal.Refusal.TheVariants.{Reopen, NoSlot, NoSuchBinder, OutOfMemory}
use Rattle.requests.specs.declared.reply.Reply.{Reply}
use Rattle.requests.specs.declared.reply.Reply.TheVariants.{Done, Refused}
use Rattle.registry.specs.Flight.{Flight, begun, further, goings, step_sectors, IsBindOf, IsBounded}
use Rattle.registry.specs.Flying.{IsLastStep, IsStepRefusal, MayBeRefused}
use Rattle.registry.specs.Opened.{IsAt}
use Rattle.registry.specs.declared.binder.Step.{Step}
use Rattle.registry.specs.declared.binder.Step.TheVariants.{Going, Final}
use Rattle.registry.specs.inside.Binding.{Binding}
use Rattle.binders.specs.Slotted.{Slotted, AreOn, HoldAlone, held_by, lowest_free}

-- The registry stays at its state. The number of holders of a byte string changes by the same amount as
-- the number of times that the binders hold it.
pub record StaysAt {D : Type 0} (facts : D → DiskFacts) (old new : Slotted D) : Type 0 where
  pub same : (s : State) → IsAt facts old.registry s → IsAt facts new.registry s
  pub kept : (new.registry.root ≡ old.registry.root) × (new.registry.entries ≡ old.registry.entries) × (new.registry.failed ≡ old.registry.failed)
  pub holders : (sector : ℕ) → holders_of new.registry.held sector + held_by old.slots sector
      ≡ holders_of old.registry.held sector + held_by new.slots sector
  pub alone : HoldAlone old → HoldAlone new

-- the binders stay on their flights
abbrev pub FlyOn : {D : Type 0} → (D → DiskFacts) → Slotted D → Slotted D → Type 0
FlyOn facts old new = (flights : List (Option Flight)) → AreOn facts old flights → AreOn facts new flights

-- a binder was put into this slot
abbrev pub IsPut : List (Option Binding) → ℕ → List (Option Binding) → Type 0
IsPut old slot new = (binder : Binding) × (new ≡ slice_set old slot (Some binder))

-- the flights of the binders after another binder began: it has a new flight, in the lowest free
-- slot
abbrev pub BegunIn : {D : Type 0} → (D → DiskFacts) → Slotted D → Slotted D → List ℕ
    → ℕ → State → List (Option Flight) → Result ℕ Refusal → Type 0
BegunIn facts old new program base s flights (Ok slot) = (lowest_free old.slots ≡ Some slot)
    × AreOn facts new (slice_set flights slot (Some (begun program base s)))
BegunIn facts old new program base s flights (Err refusal) = AreOn facts new flights

-- A binder began in a slot, or was refused with S2, C7 or S11. The refusal is S2 if and only if a
-- write or a sync has failed. Otherwise it is C7 if and only if each slot has a binder.
pub record BeginsIn {D : Type 0} (facts : D → DiskFacts) (old new : Slotted D) (program : List ℕ) (base : ℕ) (result : Result ℕ Refusal) : Type 0 where
  pub ok : (s : State) (flights : List (Option Flight)) → IsAt facts old.registry s
      → AreOn facts old flights → BegunIn facts old new program base s flights result
  pub stays : StaysAt facts old new
  -- on any disk: no call of the disk is made, a slot gets a binder or the slots are unchanged, and
  -- the other binders stay on their flights
  pub slots : IfOk result (λ slot. (lowest_free old.slots ≡ Some slot) × IsPut old.slots slot new.slots)
  pub err : OnErr result ((new.slots ≡ old.slots) × FlyOn facts old new)
  pub failed : IsTrue old.registry.failed → new ≡ old
  pub full : lowest_free old.slots ≡ None → new ≡ old
  pub disk : new.registry.disk ≡ old.registry.disk
  pub reopen : (result ≡ Err Reopen) ↔ IsTrue old.registry.failed
  pub no_slot : (result ≡ Err NoSlot) ↔ (IsFalse old.registry.failed × (lowest_free old.slots ≡ None))
  pub refusals : IfErr result (λ e. (e ≡ Reopen) ⊎ (e ≡ NoSlot) ⊎ (e ≡ OutOfMemory))

-- the flights of the binders after one binder made a step: that binder's flight is one step
-- further, has ended with the bind's answer, or is unchanged
abbrev pub SteppedIn : {D : Type 0} → (D → DiskFacts) → Slotted D → Slotted D → ℕ
    → List (Option Flight) → Flight → Result Step Refusal → Type 0
SteppedIn facts old new slot flights flight (Ok Going) = (flight.going < goings flight) × AreOn facts new (slice_set flights slot (Some (further flight)))
    × AreCallsExactly (step_sectors flight) (facts old.registry.disk) (facts new.registry.disk)
SteppedIn facts old new slot flights flight (Ok (Final answer)) = (flight.going ≡ goings flight) × IsBindOf flight.state flight.program flight.base answer
    × AreOn facts new (slice_set flights slot None) × (new.registry.disk ≡ old.registry.disk)
SteppedIn facts old new slot flights flight (Err refusal) = AreOn facts new flights
    × AreCallsAtMost (step_sectors flight) (facts old.registry.disk) (facts new.registry.disk)
    × MayBeRefused flight.program refusal

-- the slots after a step: the binder in this slot is unchanged, is one step further, or was removed
abbrev pub SlotsAfter : List (Option Binding) → ℕ → List (Option Binding) → Result Step Refusal → Type 0
SlotsAfter old slot new (Ok (Final answer)) = new ≡ slice_set old slot None
SlotsAfter old slot new result = IsPut old slot new

-- The binder in a slot made a step. The step is refused with C8 if and only if the slot has no binder.
-- The test for C8 is the first test.
pub record AdvancesIn {D : Type 0} (facts : D → DiskFacts) (old new : Slotted D) (slot : ℕ) (result : Result Step Refusal) : Type 0 where
  pub step : (flights : List (Option Flight)) (flight : Flight) → AreOn facts old flights
      → slice_index_or flights slot None ≡ Some flight → SteppedIn facts old new slot flights flight result
  pub bounds : (flights : List (Option Flight)) (flight : Flight) → AreOn facts old flights
      → slice_index_or flights slot None ≡ Some flight → IsBounded flight
  -- During the step, a stop leaves only sectors that a stop could leave before the step. After the
  -- step, a stop may leave exactly the same sectors.
  pub any_moment : IsTrue (facts old.registry.disk).honest
      → LeavesOnly (facts old.registry.disk) (facts new.registry.disk) (Mixture (facts old.registry.disk))
  pub unchanged : IsTrue (facts old.registry.disk).honest → IsUnchanged (facts old.registry.disk) (facts new.registry.disk)
  pub stays : StaysAt facts old new
  -- the clauses from here on hold on any disk, honest or not
  pub no_binder : (result ≡ Err NoSuchBinder) ↔ (slice_index_or old.slots slot None ≡ None)
  pub absent : slice_index_or old.slots slot None ≡ None → new ≡ old
  pub present : slice_index_or old.slots slot None ≢ None → SlotsAfter old.slots slot new.slots result
  pub failed : IsTrue old.registry.failed → new ≡ old
  pub reopen : slice_index_or old.slots slot None ≢ None → ((result ≡ Err Reopen) ↔ IsTrue old.registry.failed)
  pub refusals : IfErr result (λ e. (e ≡ NoSuchBinder) ⊎ IsStepRefusal facts old.registry new.registry e)
  pub answers : IfOk result IsLastStep
  pub calls : AreCalls (facts old.registry.disk) (facts new.registry.disk)

-- The binder in a slot was ended. The answer is C8 if the slot has no binder, and Done otherwise.
-- No call of the disk is made.
pub record CancelsIn {D : Type 0} (facts : D → DiskFacts) (old new : Slotted D) (slot : ℕ) (answer : Reply) : Type 0 where
  pub ok : (flights : List (Option Flight)) → AreOn facts old flights → AreOn facts new (slice_set flights slot None)
  pub stays : StaysAt facts old new
  pub disk : new.registry.disk ≡ old.registry.disk
  pub answers : (answer ≡ Done) ⊎ (answer ≡ Refused NoSuchBinder)
  pub no_binder : (answer ≡ Refused NoSuchBinder) ↔ (slice_index_or old.slots slot None ≡ None)
  pub absent : slice_index_or old.slots slot None ≡ None → new ≡ old
  pub slots : new.slots ≡ slice_set old.slots slot None
