-- The limits of a state, and of the disk that holds it (own).
use Rattle.std.specs.Prelude.{ℕ, ◌-◌, ◌^◌}

-- the minimum number of sectors of a disk
abbrev pub least_sectors : ℕ
least_sectors = 8

-- the maximum number of libraries of a state
abbrev pub most_libraries : ℕ
most_libraries = 2048

-- the maximum number of libraries that a catalogue lists
abbrev pub most_catalogue_entries : ℕ
most_catalogue_entries = 64

-- the maximum number of preloads of a state
abbrev pub most_preloads : ℕ
most_preloads = 16

-- the greatest generation; no change follows it
abbrev pub last_generation : ℕ
last_generation = 2 ^ 64 - 1
