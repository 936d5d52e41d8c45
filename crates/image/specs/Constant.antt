-- The constants of memory and of segments.
use Rattle.std.specs.Prelude.{ℕ, ◌-◌, ◌^◌}

-- the size of a page in bytes (psABI: the smallest page)
abbrev pub PAGE : ℕ
PAGE = 4096

-- the highest end of memory: a page below the end of the lower half of the address space
abbrev pub MEMORY_LIMIT : ℕ
MEMORY_LIMIT = 2 ^ 47 - 4096

-- p_flags: the segment may be executed (gABI chapter 5)
abbrev pub PF_X : ℕ
PF_X = 1

-- p_flags: the segment may be written (gABI chapter 5)
abbrev pub PF_W : ℕ
PF_W = 2

-- p_flags: the segment may be read (gABI chapter 5)
abbrev pub PF_R : ℕ
PF_R = 4
