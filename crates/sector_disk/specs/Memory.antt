-- The facts of a disk in memory, and the choices of a stop for each sector.
use Rattle.std.specs.Prelude.{◌≡◌, ◌≢◌, ◌<◌, ◌%◌, ℕ, List, [], ◌∷◌, ◌++◌, length}
use Rattle.sector_disk.specs.declared.memory.Memory.{Memory}
use Rattle.sector_disk.specs.Disk.{Sector, sector, DiskFacts}
use Rattle.sector_disk.specs.Moments.{facts_of}
use Rattle.sector_disk.specs.Written.{choices}

-- the facts of a disk in memory
abbrev pub memory_facts : Memory → DiskFacts
memory_facts m = facts_of m.start.items m.writes.items m.synced m.past.items

-- the choices of a stop for sector k: the synced content, then each content written since, the oldest
-- first
abbrev pub memory_choices : Memory → ℕ → List Sector
memory_choices m k = choices m.start.items m.writes.items m.synced k

-- every sector has the same choices as before
pub record KeepsChoices (old new : Memory) : Type 0 where
  pub each : (k : ℕ) → memory_choices new k ≡ memory_choices old k

-- Sector `at` has `content` as one more choice, which comes last. No other sector's choices change.
pub record AddsChoice (old new : Memory) (at : ℕ) (content : Sector) : Type 0 where
  pub here : memory_choices new at ≡ memory_choices old at ++ content ∷ []
  pub others : (k : ℕ) → k ≢ at → memory_choices new k ≡ memory_choices old k

-- every sector has exactly one choice, which is the content that reads return
pub record HasOneChoice (disk : Memory) : Type 0 where
  pub each : (k : ℕ) → k < (memory_facts disk).sectors → memory_choices disk k ≡ sector (memory_facts disk).now k ∷ []

-- the content is choice number `named`, modulo the number of choices, and `IsNamed` allows this
-- `named`
abbrev pub IsPicked : (ℕ → Type 0) → List Sector → Sector → Type 0
IsPicked IsNamed cs content = (named : ℕ) × IsNamed named × (content ≡ sector cs (named % length cs))
