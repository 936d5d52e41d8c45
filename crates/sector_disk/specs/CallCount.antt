-- The numbers of calls that were made to a disk, and the facts of a disk of which only the size and
-- the calls are known.
use Rattle.std.specs.Prelude.{ℕ, false, length, filter, []}
use Rattle.sector_disk.specs.declared.call_count.CallCount.{CallCount}
use Rattle.sector_disk.specs.Disk.{DiskFacts}

-- the number of calls that were made
abbrev pub calls_made : CallCount → ℕ
calls_made count = length count.failed.items

-- the number of calls that failed
abbrev pub calls_failed : CallCount → ℕ
calls_failed count = length (filter (λ failed. failed) count.failed.items)

-- the facts of a disk that may not be honest: only its size and its calls are known
abbrev pub unknown_disk : ℕ → CallCount → DiskFacts
unknown_disk sectors count = record {
  honest = false;
  sectors = sectors;
  time = calls_made count;
  marks = λ u. u;
  failures = calls_failed count;
  plans = [];
  log = [];
  now = [];
  may_leave = λ u k c. ⊥;
}
