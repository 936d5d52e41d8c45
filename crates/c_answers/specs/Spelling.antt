-- A plan encoded as bytes (own).
use Rattle.std.specs.Prelude.{ℕ, List, ◌++◌}
use Rattle.std.specs.List.{flat_map}
use Rattle.std.specs.Int.{to_le_bytes, w32}
use Rattle.byte_disk.specs.declared.step.Step.{Step}
use Rattle.byte_disk.specs.declared.step.Step.TheVariants.{Write, Sync}

-- The number that encodes a sync. No sector has this number, because a disk has fewer than 2^32 sectors.
abbrev pub sync_number : ℕ
sync_number = 4294967295

-- the bytes of a step: for a write, the sector's number in four bytes, the lowest first, and its
-- content; for a sync, `sync_number`
abbrev pub step_bytes : Step → List ℕ
step_bytes (Write at content) = to_le_bytes w32 at ++ content
step_bytes Sync = to_le_bytes w32 sync_number

-- the bytes of the steps, one step after the other
abbrev pub plan_bytes : List Step → List ℕ
plan_bytes steps = flat_map step_bytes steps
