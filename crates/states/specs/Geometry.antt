-- The sizes of disks (own).
use Rattle.std.specs.Prelude.{ℕ, Bool, nat_le, ◌&&◌, IsTrue}
use Rattle.extents.specs.Limits.{most_sectors}
use Rattle.states.specs.Limits.{least_sectors}

-- a disk of `sectors` sectors can hold a state
abbrev pub is_geometry : ℕ → Bool
is_geometry sectors = nat_le least_sectors sectors && nat_le sectors most_sectors

-- the disk can hold a state, as a condition for contracts
abbrev pub IsGeometry : ℕ → Type 0
IsGeometry sectors = IsTrue (is_geometry sectors)
