-- A plan: the steps that a caller carries out on a disk, and the contents that a stop may leave
-- after each step (own).
use Rattle.std.specs.Prelude.{◌≡◌, ◌<◌, ◌≤◌, ℕ, List, [], ◌∷◌, length, set, take, drop, All}
use Rattle.sector_disk.specs.Disk.{Sector, sector, IsWhole}
use Rattle.byte_disk.specs.declared.step.Step.{Step}
use Rattle.byte_disk.specs.declared.step.Step.TheVariants.{Write, Sync}

-- the sectors after these steps, which are the contents that reads return then
abbrev pub carried_out : List Sector → List Step → List Sector
carried_out start [] = start
carried_out start (Write at content ∷ steps) = carried_out (set start at content) steps
carried_out start (Sync ∷ steps) = carried_out start steps

-- the step is a write
abbrev pub IsWriteStep : Step → Type 0
IsWriteStep (Write at content) = Unit {0}
IsWriteStep Sync = ⊥

-- A stop after these steps may leave sector k with this content: the content that it had at the
-- last sync, or after a step since then. The sector had the content after the first `i` steps, and
-- no sync comes after them.
abbrev pub MayBeLeft : List Sector → List Step → ℕ → Sector → Type 0
MayBeLeft start steps k c = (i : ℕ) × (i ≤ length steps) × All IsWriteStep (drop i steps) × (c ≡ sector (carried_out start (take i steps)) k)

-- A mixture after these steps: each sector, independently of the others, has a content that a stop
-- may leave there.
pub record IsMixtureAfter (start : List Sector) (steps : List Step) (m : List Sector) : Type 0 where
  pub size : length m ≡ length start
  pub each : (k : ℕ) → k < length start → MayBeLeft start steps k (sector m k)

-- a sector's number, and the content that is written to it
abbrev pub SectorWrite : Type 0
SectorWrite = ℕ × Sector

-- the writes among these steps, in their order
abbrev pub writes_in : List Step → List SectorWrite
writes_in [] = []
writes_in (Write at content ∷ steps) = (at, content) ∷ writes_in steps
writes_in (Sync ∷ steps) = writes_in steps

-- the write is that of a whole sector on a disk of `sectors` sectors
pub record IsWriteOn (sectors : ℕ) (write : SectorWrite) : Type 0 where
  pub inside : write.0 < sectors
  pub whole : IsWhole write.1
