-- The number of calls that a pass makes of a disk.
use Rattle.std.specs.Prelude.{◌≡◌, ◌≤◌, ◌+◌, ◌-◌, ℕ, Result, OnOk, OnErr}
use Rattle.sector_disk.specs.Disk.{DiskFacts, calls_between, LogGrows, Mixture, KeepsPast, IsUnchanged, LeavesOnly}

-- On any disk, honest or not, calls were made one after the other up to the first call that failed.
-- If no call failed, n calls were made.
pub record AreCallsInRow {T E : Type 0} (n : ℕ) (old new : DiskFacts) (result : Result T E) : Type 0 where
  pub honest : new.honest ≡ old.honest
  pub sectors : new.sectors ≡ old.sectors
  pub plans : new.plans ≡ old.plans
  pub log : LogGrows (calls_between old new) old.log new.log
  pub later : old.time ≤ new.time
  pub most : new.time ≤ old.time + n
  pub few_failures : new.failures - old.failures ≤ calls_between old new
  pub all : OnOk result (new.time ≡ old.time + n)
  pub ok : OnOk result (new.failures ≡ old.failures)
  pub err : OnErr result (new.failures ≡ old.failures + 1)

-- Reads of an honest disk change nothing.
pub record AreReads (old new : DiskFacts) : Type 0 where
  pub past : KeepsPast old new
  pub same : IsUnchanged old new
  pub leaves : LeavesOnly old new (Mixture old)
