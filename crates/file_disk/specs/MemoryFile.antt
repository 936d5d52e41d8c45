-- The facts of a file in memory, and the outcome of each of its calls.
use Rattle.std.specs.Prelude.{◌≡◌, ◌<◌, ◌≤◌, ◌+◌, ◌-◌, ◌^◌, ◌==◌, ◌&&◌, ℕ, nat_lt, Bool, true, false, if◌then◌else◌}
use Rattle.std.specs.Prelude.{List, length, slice_index_or, min, Result, IfOk, is_err}
use Rattle.sector_disk.specs.declared.memory.Memory.{Memory}
use Rattle.sector_disk.specs.CallCount.{calls_failed}
use Rattle.sector_disk.specs.Disk.{Sector, MayLeave, LeavesNowAlone}
use Rattle.sector_disk.specs.Memory.{memory_facts}
use Rattle.file_disk.specs.declared.memory_file.FilePlan.{FilePlan}
use Rattle.file_disk.specs.declared.memory_file.MemoryFile.{MemoryFile}
use Rattle.file_disk.specs.declared.memory_file.CallOutcome.{CallOutcome}
use Rattle.file_disk.specs.Medium.{HasWritten, IsWholeUnlessFailed}
use Rattle.file_disk.specs.SectorFile.{FileFacts}

-- The facts of a file over a disk in memory, which was in the states `past` at the past moments. At
-- each moment, the file's medium may have the contents that a stop of the disk may leave at that
-- moment.
abbrev pub facts_over : Memory → List Memory → ℕ → Bool → FileFacts
facts_over medium past failures sync_failed = record {
  sectors = (memory_facts medium).sectors;
  time = length past;
  failures = failures;
  sync_failed = sync_failed;
  now = (memory_facts medium).now;
  may_have = λ u k c. (k < (memory_facts medium).sectors) × MayLeave (memory_facts (slice_index_or past u medium)) k c;
}

-- the facts of a file in memory
abbrev pub memory_file_facts : MemoryFile → FileFacts
memory_file_facts file = facts_over file.medium file.past.items (calls_failed file.calls) file.sync_failed

-- the disk under the file, which has the written contents, and which determines the contents that
-- the medium may have
abbrev pub medium_of : MemoryFile → Memory
medium_of file = file.medium

-- the plan of a file: the call that fails or moves only some of its sectors
abbrev pub plan_of : MemoryFile → FilePlan
plan_of file = file.plan

-- the outcome of call n: that of the plan if n is the planned call; a failure that moves nothing if
-- n is a later call and `forever` is true; and otherwise success
abbrev pub outcome_of : FilePlan → ℕ → CallOutcome
outcome_of plan n =
    if n == plan.call
    then plan.outcome
    else (if plan.forever && nat_lt 0 plan.call && nat_lt plan.call n then record { most = 0; fails = true } else record { most = 2 ^ 64 - 1; fails = false })

-- the outcome of the next call
abbrev pub next_outcome : MemoryFile → CallOutcome
next_outcome file = outcome_of file.plan (length file.past.items + 1)

-- A call fails if and only if its outcome is a failure. The plan stays the same.
pub record HasOutcome {T E : Type 0} (old new : MemoryFile) (result : Result T E) : Type 0 where
  pub fails : is_err result ≡ (next_outcome old).fails
  pub plan : plan_of new ≡ plan_of old

-- A successful read moves all requested sectors, or only as many as its outcome allows.
pub record IsMoved {E : Type 0} (old : MemoryFile) (asked : ℕ) (result : Result ℕ E) : Type 0 where
  pub count : IfOk result (λ count. count ≡ min (next_outcome old).most asked)

-- A write has written as many sectors as its outcome allows, or fewer if memory for the disk was
-- refused. If it succeeds, it returns their number.
pub record IsCutWrite {E : Type 0} (old new : MemoryFile) (at : ℕ) (given : List Sector) (result : Result ℕ E) : Type 0 where
  pub count : ℕ
  pub few : count ≤ min (next_outcome old).most (length given)
  pub cause : IsWholeUnlessFailed count (min (next_outcome old).most (length given)) (memory_facts (medium_of old)) (memory_facts (medium_of new))
  pub ok : IfOk result (λ n. n ≡ count)
  pub written : HasWritten at given count (memory_facts (medium_of old)) (memory_facts (medium_of new))

-- a sync with this outcome brings everything to the medium: no sync has failed before, and this
-- sync doesn't fail early
abbrev pub does_work : MemoryFile → CallOutcome → Bool
does_work file outcome = if file.sync_failed then false else (if outcome.fails then nat_lt 0 outcome.most else true)

-- A sync brings everything to the medium, or changes nothing there. Reads return the same contents as
-- before.
pub record IsCutSync (old new : MemoryFile) : Type 0 where
  pub now : (memory_facts (medium_of new)).now ≡ (memory_facts (medium_of old)).now
  pub done : does_work old (next_outcome old) ≡ true → LeavesNowAlone (memory_facts (medium_of new))
  pub not_done : does_work old (next_outcome old) ≡ false → medium_of new ≡ medium_of old
