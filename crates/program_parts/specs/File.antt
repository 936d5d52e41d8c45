-- The maximum length of a file that a program reads.
use Rattle.std.specs.Prelude.{ℕ}

-- the limit for the length of a file, in bytes: a file of 1 GiB or more isn't read
abbrev pub read_limit : ℕ
read_limit = 1073741824
