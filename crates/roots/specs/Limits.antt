-- The limits of root, catalogue and entry sectors. The crates `extents` and `states` define the limits
-- of layouts and of states.
use Rattle.std.specs.Prelude.{ℕ}

-- the maximum number of entries that a root of version 1 lists, which is also the maximum number of
-- libraries that it counts
abbrev pub most_root_entries : ℕ
most_root_entries = 100

-- the maximum number of catalogues that a root of version 2 lists
abbrev pub most_catalogues : ℕ
most_catalogues = 32

-- the minimum and the maximum length of a file in bytes
abbrev pub least_file_bytes : ℕ
least_file_bytes = 64

abbrev pub most_file_bytes : ℕ
most_file_bytes = 16777216

-- the maximum length of a name in bytes
abbrev pub most_name_bytes : ℕ
most_name_bytes = 240
