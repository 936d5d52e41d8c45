-- The effect of a command on a registry on a disk (own).
use Rattle.std.specs.Prelude.{◌≡◌, ◌⊎◌, IsTrue, List, None}
use Rattle.sector_disk.specs.Disk.{Sector, DiskFacts, LeavesOnly}
use Rattle.store.specs.Opened.{Opened}
use Rattle.states.specs.State.{State}
use Rattle.requests.specs.Request.{Request}
use Rattle.requests.specs.Phase.{Phase}
use Rattle.requests.specs.Step.{Step, accepted, refusal_at}
use Rattle.requests.specs.declared.refusal.Refusal.TheVariants.{Device}
use Rattle.requests.specs.declared.reply.Reply.{Reply}
use Rattle.requests.specs.declared.reply.Reply.TheVariants.{Refused}
use Rattle.registry.specs.Stands.{Stands}
use Rattle.registry.specs.Opened.{IsAt}
use Rattle.registry.specs.Phase.{phase_of}

-- The sectors that a stop during a command may leave. `Holds` defines which state a list of sectors
-- holds.
module _ (Holds : List Sector → State → Type 0) where
  -- The answer is S1, although no test refuses the command, and the sectors m hold the state after
  -- the command: the change took effect, although the device failed before its end.
  abbrev pub InFlightBy : Phase → Request → Reply → List Sector → Type 0
  InFlightBy p request answer m = (answer ≡ Refused Device) × (refusal_at p request ≡ None) × Holds m (accepted p.state request)

  -- the sectors m hold the state before the command, or the state after it, or the state after a
  -- change for which `InFlightBy` holds
  abbrev pub MayLeaveBy : Phase → Request → Reply → State → List Sector → Type 0
  MayLeaveBy p request answer s' m = Holds m p.state ⊎ Holds m s' ⊎ InFlightBy p request answer m

-- The command was answered with `answer`, and changed state s to state s'. `Holds` defines which state a
-- list of sectors holds, `StepsTo` is the table of steps, and `At` defines when a registry is at a
-- state.
pub record AppliedBy (Holds : List Sector → State → Type 0) (StepsTo : Phase → Request → Reply → Phase → Type 0)
    {D : Type 0} (facts : D → DiskFacts) (At : Opened D → State → Type 0) (old new : Opened D) (s s' : State) (request : Request) (answer : Reply) : Type 0 where
  pub step : StepsTo (phase_of facts old s) request answer (phase_of facts new s')
  pub any_moment : LeavesOnly (facts old.disk) (facts new.disk) (MayLeaveBy Holds (phase_of facts old s) request answer s')
  -- at the end the registry is at s'; or a write or a sync failed, and s' equals s
  pub kept : At new s' ⊎ (IsTrue new.failed × (s' ≡ s))

-- the device failed during a change of a registry, but the sectors m hold the state after the
-- change
abbrev pub InFlight : Phase → Request → Reply → List Sector → Type 0
InFlight p request answer m = InFlightBy Stands p request answer m

-- a stop during a command of a registry may leave the sectors m
abbrev pub MayLeaveWithin : Phase → Request → Reply → State → List Sector → Type 0
MayLeaveWithin p request answer s' m = MayLeaveBy Stands p request answer s' m

-- The command of a registry was answered with `answer`, and changed state s to state s'.
abbrev pub Applied : {D : Type 0} → (D → DiskFacts) → Opened D → Opened D → State → State → Request → Reply → Type 0
Applied facts old new s s' request answer = AppliedBy Stands Step facts (IsAt facts) old new s s' request answer

-- `Applied` holds for some state after the command
abbrev pub Applies : {D : Type 0} → (D → DiskFacts) → Opened D → Opened D → State → Request → Reply → Type 0
Applies facts old new s request answer = (s' : State) × Applied facts old new s s' request answer
