-- The search for the latest content of a sector.
use Rattle.std.specs.Prelude.{ℕ, List, [], map, Option, Some, None, slice_index_or}
use Rattle.sector_disk.specs.Disk.{Sector, sector}
use Rattle.byte_disk.specs.declared.planned.PlannedStep.{PlannedStep}
use Rattle.byte_disk.specs.declared.step.Step.{Step}
use Rattle.byte_disk.specs.declared.step.Step.TheVariants.{Write, Sync}

-- the steps without the counts of calls
abbrev pub plan_in : List PlannedStep → List Step
plan_in planned = map (λ p. p.step) planned

-- the content that a step writes
abbrev pub content_of : Step → Sector
content_of (Write at content) = content
content_of Sync = []

-- the content of sector k: the content that the step at the given place writes or, if no place is
-- given, the sector's content at the start
abbrev pub content_by : List Sector → List Step → ℕ → Option ℕ → Sector
content_by start steps k None = sector start k
content_by start steps k (Some place) = content_of (slice_index_or steps place Sync)
