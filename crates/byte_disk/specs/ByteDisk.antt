-- The facts of a disk over given bytes (own).
use Rattle.std.specs.Prelude.{◌≡◌, ◌↔◌, ◌≤◌, ◌<◌, All, ◌+◌, ◌-◌, ℕ, List, [], ◌∷◌, length, map, take, true, nat_lt, if◌then◌else◌}
use Rattle.std.specs.Prelude.{vec_len, vec_capacity}
use Rattle.std.specs.HashMap.{spare}
use Rattle.sector_disk.specs.CallCount.{calls_made, calls_failed}
use Rattle.sector_disk.specs.Disk.{Sector, DiskFacts, MixtureAt, Logged, Wrote, Synced}
use Rattle.sector_disk.specs.declared.call_count.CallCount.{CallCount}
use Rattle.byte_disk.specs.declared.disk.ByteDisk.{ByteDisk}
use Rattle.byte_disk.specs.declared.planned.PlannedStep.{PlannedStep}
use Rattle.byte_disk.specs.declared.step.Step.{Step}
use Rattle.byte_disk.specs.declared.step.Step.TheVariants.{Write, Sync}
use Rattle.byte_disk.specs.Plan.{carried_out, MayBeLeft, IsMixtureAfter, writes_in}
use Rattle.byte_disk.specs.inside.Latest.{plan_in}

-- the steps of the disk's plan
abbrev pub plan_of : ByteDisk → List Step
plan_of disk = plan_in disk.planned.items

-- the sectors that the disk was given
abbrev pub given_to : ByteDisk → List Sector
given_to disk = disk.start.now

-- the number of calls up to the last of these steps, including the call that made it
abbrev pub calls_for : List PlannedStep → ℕ
calls_for [] = 0
calls_for (p ∷ planned) = calls_made p.idle + 1 + calls_for planned

-- the number of failed calls up to the last of these steps; a call that makes a step succeeds
abbrev pub failures_for : List PlannedStep → ℕ
failures_for [] = 0
failures_for (p ∷ planned) = calls_failed p.idle + failures_for planned

-- the number of these steps that have been made at moment u
abbrev pub steps_at : List PlannedStep → ℕ → ℕ
steps_at [] u = 0
steps_at (p ∷ planned) u = if nat_lt (calls_made p.idle) u then steps_at planned (u - (calls_made p.idle + 1)) + 1 else 0

-- the memory of the disk's plan has no room for one more step
abbrev pub HasFullPlan : ByteDisk → Type 0
HasFullPlan disk = vec_capacity disk.planned ≤ vec_len disk.planned

-- the memory of the disk's index has no room for one more sector; the index is used to find the
-- latest content of a sector
abbrev pub HasFullIndex : ByteDisk → Type 0
HasFullIndex disk = spare disk.latest ≡ 0

-- the step as a log records it
abbrev pub logged : Step → Logged
logged (Write at content) = Wrote
logged Sync = Synced

-- the facts of a disk that was given these sectors, with these steps, and these calls since the last step
abbrev pub facts_of : List Sector → List PlannedStep → CallCount → DiskFacts
facts_of start planned idle = record {
  honest = true;
  sectors = length start;
  time = calls_for planned + calls_made idle;
  marks = λ u. u;
  failures = failures_for planned + calls_failed idle;
  plans = [];
  log = map logged (plan_in planned);
  now = carried_out start (plan_in planned);
  may_leave = λ u k c. MayBeLeft start (take (steps_at planned u) (plan_in planned)) k c;
}

-- the facts of a disk over given bytes
abbrev pub byte_facts : ByteDisk → DiskFacts
byte_facts disk = facts_of disk.start.now disk.planned.items disk.idle

-- a stop at moment u leaves exactly the mixtures after the first n steps of the plan
abbrev pub LeavesAsAfter : ByteDisk → ℕ → ℕ → Type 0
LeavesAsAfter disk u n = (m : List Sector) → MixtureAt (byte_facts disk) u m ↔ IsMixtureAfter (given_to disk) (take n (plan_of disk)) m

-- The relation of a disk's plan to the disk's facts, if the steps are carried out in the order of
-- the plan. After each prefix of the plan, a stop leaves exactly the contents that the disk's facts
-- state for some moment. For each moment there is such a prefix.
pub record IsPlanOf (disk : ByteDisk) : Type 0 where
  pub prefixes : (n : ℕ) → n ≤ length (plan_of disk) → (u : ℕ) × (u ≤ (byte_facts disk).time) × LeavesAsAfter disk u n
  pub moments : (u : ℕ) → u ≤ (byte_facts disk).time → (n : ℕ) × (n ≤ length (plan_of disk)) × LeavesAsAfter disk u n
  -- no write is to a sector outside the disk
  pub inside : All (λ write. write.0 < length (given_to disk)) (writes_in (plan_of disk))
