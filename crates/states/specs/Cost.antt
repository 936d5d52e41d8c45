-- The cost of a state in sectors, and the number of sectors that it leaves free (own).
use Rattle.std.specs.Prelude.{ℕ, ◌+◌, ◌-◌, ◌*◌, length, sum_by}
use Rattle.std.specs.Int.{div_ceil}
use Rattle.sector_disk.specs.Disk.{sector_bytes}
use Rattle.extents.specs.Limits.{root_sectors}
use Rattle.states.specs.Limits.{most_catalogue_entries}
use Rattle.states.specs.State.{State}

-- the number of sectors that a file of `size` bytes takes: those of its bytes, and one for its
-- entry
abbrev pub cost : ℕ → ℕ
cost size = div_ceil size sector_bytes + 1

-- the number of catalogues that list `libraries` libraries; all of them are full, except perhaps the last
abbrev pub catalogues_for : ℕ → ℕ
catalogues_for libraries = div_ceil libraries most_catalogue_entries

-- the number of sectors that a state takes: those of its libraries, and twice those of their
-- catalogues, because a change writes all catalogues again
abbrev pub taken_by : State → ℕ
taken_by s = sum_by (λ l. cost (length l.bytes)) s.libraries + 2 * catalogues_for (length s.libraries)

-- the number of sectors that are free in a state, on a disk of `sectors` sectors; the sectors for the
-- next change's catalogues don't count as free
abbrev pub free : ℕ → State → ℕ
free sectors s = sectors - root_sectors - taken_by s

-- the number of additional sectors that the catalogues take if one library is added: twice the
-- number of additional catalogues
abbrev pub catalogue_cost : ℕ → ℕ
catalogue_cost libraries = 2 * (catalogues_for (libraries + 1) - catalogues_for libraries)
