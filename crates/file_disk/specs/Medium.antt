-- Writes and reads of adjacent sectors on a disk in memory.
use Rattle.std.specs.Prelude.{◌≡◌, ◌<◌, ◌≤◌, ◌+◌, ◌↔◌, ◌⊎◌, ℕ, List, length}
use Rattle.sector_disk.specs.Disk.{Sector, sector, DiskFacts, MayLeave, IsUnchanged}

-- The first `count` of the sectors `given` were written to sector `at` and the sectors after it.
-- Reads return these contents. The medium may have them, or the contents that it might have had
-- before. All other sectors are unchanged.
pub record HasWritten (at : ℕ) (given : List Sector) (count : ℕ) (old new : DiskFacts) : Type 0 where
  pub sectors : new.sectors ≡ old.sectors
  pub size : length new.now ≡ length old.now
  pub here : (i : ℕ) → i < count → sector new.now (at + i) ≡ sector given i
  pub others : (k : ℕ) → (k < at) ⊎ (at + count ≤ k) → sector new.now k ≡ sector old.now k
  pub medium : (k : ℕ) (c : Sector) → MayLeave new k c ↔ (MayLeave old k c ⊎ ((i : ℕ) × (i < count) × (k ≡ at + i) × (c ≡ sector given i)))

-- All `asked` sectors were written, or a write failed. `count` is the number of written sectors.
abbrev pub IsWholeUnlessFailed : ℕ → ℕ → DiskFacts → DiskFacts → Type 0
IsWholeUnlessFailed count asked old new = (count ≡ asked) ⊎ (old.failures < new.failures)

-- Reads return the same contents as before, and the medium may have the same contents as before.
pub record IsSameMedium (old new : DiskFacts) : Type 0 where
  pub sectors : new.sectors ≡ old.sectors
  pub same : IsUnchanged old new
