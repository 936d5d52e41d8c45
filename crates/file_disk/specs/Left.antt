-- The contents that reads return and those that a stop may leave, computed from past moments of a file with its
-- buffers.
use Rattle.std.specs.Prelude.{◌+◌, ◌≤◌, ℕ, List, [], ◌∷◌, slice_index_or, Contains}
use Rattle.sector_disk.specs.Disk.{Sector}
use Rattle.sector_disk.specs.declared.past.Past.{Past}
use Rattle.file_disk.specs.declared.buffered.Buffered.{Buffered}
use Rattle.file_disk.specs.declared.sector_file.SectorFile.{Ghosts}
use Rattle.file_disk.specs.Buffered.{shown_at, Leaves}

module _ {F : Type 0} {g : Ghosts F} where
  -- at one of these moments, the write buffer had the content for sector k, or the file's medium
  -- might have had it there
  abbrev pub LeftOf : List (Buffered F g) → ℕ → Sector → Type 0
  LeftOf since k c = ∥ ((s : Buffered F g) × Contains since s × Leaves s k c) ∥₁

  -- the content that reads return for sector k at the first of these moments
  abbrev pub shown_of : List (Buffered F g) → ℕ → Sector
  shown_of [] k = []
  shown_of (s ∷ more) k = shown_at s k

  -- the time of the file at moment v; `files` has the file at the past moments, and `b` is the present one
  abbrev pub time_at : List (Buffered F g) → Buffered F g → ℕ → ℕ
  time_at files b v = (g.facts (slice_index_or files v b).file).time

  -- at each moment up to `now`, the file's time was at most its present time
  abbrev pub IsTimed : List (Buffered F g) → Buffered F g → ℕ → Type 0
  IsTimed files b now = (v : ℕ) → v ≤ now → time_at files b v ≤ (g.facts b.file).time

  -- A stop at a moment may leave each content that the medium might have had from the file's time
  -- at this moment to the file's time at the next moment.
  abbrev pub IsFollowed : List (Buffered F g) → Buffered F g → List (Past (Buffered F g)) → Past (Buffered F g) → ℕ → Type 0
  IsFollowed files b past since now = (v u k : ℕ) (c : Sector) → v ≤ now → time_at files b v ≤ u → u ≤ time_at files b (v + 1)
      → (g.facts b.file).may_have u k c → LeftOf (slice_index_or past v since).items k c
