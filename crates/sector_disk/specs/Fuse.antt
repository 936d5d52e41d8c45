-- The facts of a disk under a fuse, and the outcome of each call.
use Rattle.std.specs.Prelude.{◌≡◌, ◌==◌, ◌-◌, ◌+◌, ◌&&◌, ℕ, nat_lt, if◌then◌else◌}
use Rattle.std.specs.Prelude.{IsTrue, List, ◌∷◌, length, drop, filter, Result, Err}
use Rattle.sector_disk.specs.declared.disk.DiskFault.{DiskFault}
use Rattle.sector_disk.specs.declared.disk.DiskFault.TheVariants.{Failed}
use Rattle.sector_disk.specs.declared.fuse.Fuse.{Fuse}
use Rattle.sector_disk.specs.declared.fuse.Plan.{Plan}
use Rattle.sector_disk.specs.declared.fuse.PastCall.{PastCall}
use Rattle.sector_disk.specs.declared.fuse.CallOutcome.{CallOutcome}
use Rattle.sector_disk.specs.declared.fuse.CallOutcome.TheVariants.{Pass, Early, Late}
use Rattle.sector_disk.specs.Disk.{Sector, DiskFacts, IsCall, IsRead, IsWrite, IsSync}

-- the outcome of call n: the planned call fails, late if `late` is true and early otherwise; if
-- `forever` is true, later calls fail early; all other calls succeed
abbrev pub outcome_of : Plan → ℕ → CallOutcome
outcome_of plan n =
    if n == plan.call
    then (if plan.late then Late else Early)
    else (if plan.forever && nat_lt 0 plan.call && nat_lt plan.call n then Early else Pass)

-- the number of these calls that reached the inner disk
abbrev pub reached : List PastCall → ℕ
reached steps = length (filter (λ step. step.reached) steps)

-- the moment of the inner disk at moment u of the fuse: the inner disk's present moment `time`,
-- minus the number of calls that reached the inner disk since u
abbrev pub inner_moment : ℕ → List PastCall → ℕ → ℕ
inner_moment time past u = time - reached (drop u past)

-- The facts of a disk under a fuse: those of the inner disk, except that the fuse has its own clock
-- and its own count of failures, and adds its plan. The mark of a moment is the inner disk's mark
-- at that moment.
abbrev pub fused : Plan → DiskFacts → List PastCall → DiskFacts
fused plan inner past = record {
  honest = inner.honest;
  sectors = inner.sectors;
  time = length past;
  marks = λ u. inner.marks (inner_moment inner.time past u);
  failures = length (filter (λ step. step.failed) past);
  plans = plan ∷ inner.plans;
  log = inner.log;
  now = inner.now;
  may_leave = λ u. inner.may_leave (inner_moment inner.time past u);
}

-- the facts of a fuse
abbrev pub fuse_facts : {D : Type 0} → (D → DiskFacts) → Fuse D → DiskFacts
fuse_facts facts fuse = fused fuse.plan (facts fuse.inner) fuse.past.items

-- the disk under a fuse
abbrev pub inner_of : {D : Type 0} → Fuse D → D
inner_of fuse = fuse.inner

-- the plan of a fuse: the calls that fail
abbrev pub plan_of : {D : Type 0} → Fuse D → Plan
plan_of fuse = fuse.plan

-- the outcome of the next call
abbrev pub next_outcome : {D : Type 0} → Fuse D → CallOutcome
next_outcome fuse = outcome_of fuse.plan (length fuse.past.items + 1)

-- the inner disk was read once, and returned this reply and this content
abbrev pub WasRead : {D : Type 0} → (D → DiskFacts) → Fuse D → Fuse D → ℕ → Sector → Result (Unit {0}) DiskFault → Type 0
WasRead facts old new at content reply =
    IsCall (facts old.inner) (facts new.inner) reply
    × (IsTrue (facts old.inner).honest → IsRead (facts old.inner) (facts new.inner) at content reply)

-- the inner disk was written to once, and returned this reply
abbrev pub WasWritten : {D : Type 0} → (D → DiskFacts) → Fuse D → Fuse D → ℕ → Sector → Result (Unit {0}) DiskFault → Type 0
WasWritten facts old new at content reply =
    IsCall (facts old.inner) (facts new.inner) reply
    × (IsTrue (facts old.inner).honest → IsWrite (facts old.inner) (facts new.inner) at content reply)

-- the inner disk was synced once, and returned this reply
abbrev pub WasSynced : {D : Type 0} → (D → DiskFacts) → Fuse D → Fuse D → Result (Unit {0}) DiskFault → Type 0
WasSynced facts old new reply =
    IsCall (facts old.inner) (facts new.inner) reply
    × (IsTrue (facts old.inner).honest → IsSync (facts old.inner) (facts new.inner) reply)

-- the outcome of a call: it succeeds; or it fails early, before it reaches the inner disk; or it
-- fails late, after the inner disk has carried it out
abbrev pub HasOutcome : {D : Type 0} → CallOutcome → Fuse D → Fuse D → (Result (Unit {0}) DiskFault → Type 0) → Result (Unit {0}) DiskFault → Type 0
HasOutcome Pass old new WasAsked result = WasAsked result
HasOutcome Early old new WasAsked result = (new.inner ≡ old.inner) × (result ≡ Err Failed)
HasOutcome Late old new WasAsked result = ((reply : Result (Unit {0}) DiskFault) × WasAsked reply) × (result ≡ Err Failed)
