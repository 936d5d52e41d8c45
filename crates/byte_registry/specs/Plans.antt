-- The effect of a plan on the state that a disk holds (own).
use Rattle.std.specs.Prelude.{◌≡◌, ◌⊎◌, ◌<◌, ◌≤◌, ◌+◌, ℕ, List, [], ◌∷◌, length, take, All}
use Rattle.std.specs.Int.{div_ceil}
use Rattle.sector_disk.specs.Disk.{Sector, sector_bytes}
use Rattle.byte_disk.specs.declared.disk.ByteDisk.{ByteDisk}
use Rattle.byte_disk.specs.declared.step.Step.{Step}
use Rattle.byte_disk.specs.declared.step.Step.TheVariants.{Write, Sync}
use Rattle.byte_disk.specs.Bytes.{IsDiskLength, sectors_in}
use Rattle.byte_disk.specs.ByteDisk.{plan_of}
use Rattle.byte_disk.specs.Plan.{IsMixtureAfter, writes_in}
use Rattle.states.specs.State.{State}
use Rattle.requests.specs.Request.{Request, install, replace}
use Rattle.registry.specs.Stands.{Stands}

-- The bytes have the length of a disk, and their sectors hold state s of a registry.
pub record Holds (bytes : List ℕ) (s : State) : Type 0 where
  pub size : IsDiskLength (length bytes)
  pub stands : Stands (sectors_in bytes) s

-- the steps without the sync at their beginning, or all steps if they don't begin with a sync
abbrev pub behind_sync : List Step → List Step
behind_sync [] = []
behind_sync (Sync ∷ steps) = steps
behind_sync (Write at content ∷ steps) = Write at content ∷ steps

-- the plan of a call: a sync, and then the steps that its disk stored
abbrev pub synced_plan : ByteDisk → List Step
synced_plan disk = Sync ∷ behind_sync (plan_of disk)

-- If the steps are carried out on the sectors `start`, each mixture after each prefix of the steps
-- satisfies `Before` or `After`. Each mixture after all steps satisfies `After`.
pub record LeadsFrom (start : List Sector) (Before After : List Sector → Type 0) (steps : List Step) : Type 0 where
  -- the first step is a sync, so that earlier writes to the disk are on its medium before the
  -- plan's first write
  pub begins : (rest : List Step) × (steps ≡ Sync ∷ rest)
  pub prefix : (n : ℕ) → n ≤ length steps → (m : List Sector) → IsMixtureAfter start (take n steps) m → Before m ⊎ After m
  pub whole : (m : List Sector) → IsMixtureAfter start steps m → After m
  -- every write is to a sector of the disk
  pub inside : All (λ write. write.0 < length start) (writes_in steps)

-- the steps lead from state s to state s'; `HoldsIt` defines which state a list of sectors holds
abbrev pub LeadsTo : (List Sector → State → Type 0) → List Sector → State → State → List Step → Type 0
LeadsTo HoldsIt start s s' steps = LeadsFrom start (λ m. HoldsIt m s) (λ m. HoldsIt m s') steps

-- the maximum number of steps in the plan of a change to any registry: one for each sector of the
-- file's bytes, and 37 more
abbrev pub most_steps : Request → ℕ
most_steps (install bytes) = div_ceil (length bytes) sector_bytes + 37
most_steps (replace bytes) = div_ceil (length bytes) sector_bytes + 37
most_steps other = 37
