-- The effect of beginning a binder, of its steps, and of ending it (own).
use Rattle.std.specs.Prelude.{◌≡◌, ◌↔◌, ◌⊎◌, ◌<◌, ◌+◌, ℕ, List, length, slice_index_or, IsTrue, Result, Ok, Err, IfOk, IfErr, OnErr}
use Rattle.sector_disk.specs.Disk.{DiskFacts, Mixture, IsUnchanged, LeavesOnly, AreCalls, AreCallsAtMost, AreCallsExactly}
use Rattle.image.specs.Refusal.{WantsMemory}
use Rattle.image.specs.declared.refusal.BindRefusal.TheVariants as binding
use Rattle.snapshots.specs.Snapshot.{IsSnapshotOf, LetsAllGo, times}
use Rattle.store.specs.declared.placed_entry.PlacedEntry.{PlacedEntry}
use Rattle.states.specs.State.{Library, State}
use Rattle.store.specs.Holds.{IsHeldBy, holders_of, AreFlagged, HeldIs, KeepsHeld}
use Rattle.store.specs.Opened.{Opened}
use Rattle.store.specs.Stands.{HaveOwnNames, TellLengths}
use Rattle.requests.specs.declared.refusal.Refusal.{Refusal}
use Rattle.requests.specs.declared.refusal.Refusal.TheVariants.{Bind, Device, Reopen, Damaged, OutOfMemory}
use Rattle.requests.specs.declared.reply.Reply.{Reply}
use Rattle.requests.specs.declared.reply.Reply.TheVariants.{Bound, Refused}
use Rattle.registry.specs.Flight.{Flight, begun, further, goings, step_sectors, IsBindOf, IsBounded}
use Rattle.registry.specs.Opened.{IsAt}
use Rattle.registry.specs.declared.binder.Step.{Step}
use Rattle.registry.specs.declared.binder.Step.TheVariants.{Going, Final}
use Rattle.registry.specs.inside.Binding.{Binding, HasCome}

-- The binder is on this flight. In the registry `now`, it holds the libraries of the state in which
-- it began. specs/inside/Binding.antt defines the progress of a binder. A reader needn't check that
-- definition, because each step below moves the binder on its flight.
pub record Flies {D : Type 0} (facts : D → DiskFacts) (now : Opened D) (binder : Binding) (flight : Flight) : Type 0 where
  pub taken : Opened D
  pub at : IsAt facts taken flight.state
  pub own : HaveOwnNames taken.entries
  pub lengths : TellLengths taken.entries flight.state
  pub snapshot : IsSnapshotOf facts taken now binder.snapshot
  pub program : binder.program ≡ flight.program
  pub base : binder.base ≡ flight.base
  pub come : HasCome flight.state binder.program binder.base binder.found flight.going

-- the handles of the byte strings that a binder holds
abbrev pub handles_of : Binding → List ℕ
handles_of binder = binder.snapshot.handles

-- A binder began, or was refused. No call of the disk was made, and the state is unchanged.
pub record Begins {D : Type 0} (facts : D → DiskFacts) (old new : Opened D) (program : List ℕ) (base : ℕ) (result : Result Binding Refusal) : Type 0 where
  pub ok : (s : State) → IsAt facts old s → IfOk result (λ binder. Flies facts new binder (begun program base s))
  pub same : (s : State) → IsAt facts old s → IsAt facts new s
  -- on any disk, other binders stay on their flights
  pub others : (binder : Binding) (flight : Flight) → Flies facts old binder flight → Flies facts new binder flight
  pub held : (sector : ℕ) (library : Library) → HeldIs facts old sector library → HeldIs facts new sector library
  pub holds : (sector : ℕ) (placed : PlacedEntry) → IsHeldBy old.held sector placed → IsHeldBy new.held sector placed
  pub holders : IfOk result (λ binder. (sector : ℕ) → holders_of new.held sector ≡ holders_of old.held sector + times sector (handles_of binder))
  pub unheld : OnErr result ((sector : ℕ) → holders_of new.held sector ≡ holders_of old.held sector)
  pub flags : AreFlagged new
  pub kept : (new.disk ≡ old.disk) × (new.root ≡ old.root) × (new.entries ≡ old.entries) × (new.failed ≡ old.failed)
  pub reopen : (result ≡ Err Reopen) ↔ IsTrue old.failed
  pub refusals : IfErr result (λ e. (e ≡ Reopen) ⊎ (e ≡ OutOfMemory))

-- a step may be refused with S11 only if the tests that come before the first allocation accept the
-- program
abbrev pub MayBeRefused : List ℕ → Refusal → Type 0
MayBeRefused program OutOfMemory = WantsMemory program
MayBeRefused program refusal = Unit {0}

-- The possible results of a step. After Going, the binder is one step further. The bind's answer
-- comes after exactly `goings flight` steps that were answered with Going. A refusal leaves the
-- binder on the same flight. After S1 or S11, the same step can be repeated. After S2, the disk has
-- to be opened again. No step makes more calls than its library has sectors.
abbrev pub IsStep : {D : Type 0} → (D → DiskFacts) → Opened D → Opened D → Flight → Binding → Result Step Refusal → Type 0
IsStep facts old new flight binder (Ok Going) = (flight.going < goings flight) × Flies facts new binder (further flight)
    × AreCallsExactly (step_sectors flight) (facts old.disk) (facts new.disk)
IsStep facts old new flight binder (Ok (Final answer)) = (flight.going ≡ goings flight) × IsBindOf flight.state flight.program flight.base answer
    × (new ≡ old)
IsStep facts old new flight binder (Err refusal) = Flies facts new binder flight × AreCallsAtMost (step_sectors flight) (facts old.disk) (facts new.disk)
    × MayBeRefused flight.program refusal

-- the refusals of a step, on any disk: S1, only if a call failed; S2, only if an earlier write or
-- sync failed; and S11
abbrev pub IsStepRefusal : {D : Type 0} → (D → DiskFacts) → Opened D → Opened D → Refusal → Type 0
IsStepRefusal facts old new Device = (facts old.disk).failures < (facts new.disk).failures
IsStepRefusal facts old new Reopen = IsTrue old.failed
IsStepRefusal facts old new OutOfMemory = Unit
IsStepRefusal facts old new other = ⊥

-- the possible last answers of a binder, on any disk: an image, B1 to B5, or S5
abbrev pub IsLast : Reply → Type 0
IsLast (Bound image) = Unit {0}
IsLast (Refused (Bind binding.OutOfMemory)) = ⊥
IsLast (Refused (Bind refusal)) = Unit
IsLast (Refused Damaged) = Unit
IsLast answer = ⊥

-- the results of a step that isn't refused: Going, or a last answer
abbrev pub IsLastStep : Step → Type 0
IsLastStep Going = Unit {0}
IsLastStep (Final answer) = IsLast answer

-- A step of a binder was answered with `result`. The step only reads.
pub record Advances {D : Type 0} (facts : D → DiskFacts) (old new : Opened D) (before after : Binding) (result : Result Step Refusal) : Type 0 where
  pub step : (flight : Flight) → Flies facts old before flight → IsStep facts old new flight after result
  pub bounds : (flight : Flight) → Flies facts old before flight → IsBounded flight
  -- During the step, a stop leaves only sectors that a stop could leave before the step. After the
  -- step, a stop may leave exactly the same sectors.
  pub any_moment : IsTrue (facts old.disk).honest → LeavesOnly (facts old.disk) (facts new.disk) (Mixture (facts old.disk))
  pub unchanged : IsTrue (facts old.disk).honest → IsUnchanged (facts old.disk) (facts new.disk)
  pub same : (s : State) → IsAt facts old s → IsAt facts new s
  -- on any disk, other binders stay on their flights, and only the disk's time and its number of
  -- failures change in the registry
  pub others : (binder : Binding) (flight : Flight) → Flies facts old binder flight → Flies facts new binder flight
  pub held : KeepsHeld facts old new
  pub kept : (new.root ≡ old.root) × (new.entries ≡ old.entries) × (new.held ≡ old.held) × (new.failed ≡ old.failed)
  pub handles : handles_of after ≡ handles_of before
  pub reopen : (result ≡ Err Reopen) ↔ IsTrue old.failed
  pub failed : IsTrue old.failed → (new ≡ old) × (after ≡ before)
  pub refusals : IfErr result (IsStepRefusal facts old new)
  pub answers : IfOk result IsLastStep
  pub calls : AreCalls (facts old.disk) (facts new.disk)

-- A binder was ended, and released the byte strings that it held. Another binder stays on its
-- flight if its byte strings are still held.
pub record Ends {D : Type 0} (facts : D → DiskFacts) (old new : Opened D) (binder : Binding) : Type 0 where
  pub let_go : LetsAllGo facts old new (handles_of binder)
  pub same : (s : State) → IsAt facts old s → IsAt facts new s
  pub others : (other : Binding) (flight : Flight)
      → ((i : ℕ) → i < length (handles_of other) → 0 < holders_of new.held (slice_index_or (handles_of other) i 0))
      → Flies facts old other flight → Flies facts new other flight
