-- The facts of a disk over given bytes that can't be changed (own).
use Rattle.std.specs.Prelude.{◌≡◌, true, length, replicate, []}
use Rattle.sector_disk.specs.CallCount.{calls_made, calls_failed}
use Rattle.sector_disk.specs.Disk.{DiskFacts, sector, Wrote}
use Rattle.byte_disk.specs.declared.read_only.ReadOnlyDisk.{ReadOnlyDisk}

-- Reads return the given sectors, and a stop leaves these sectors. Only writes fail, and the log
-- records each of them.
abbrev pub read_only_facts : ReadOnlyDisk → DiskFacts
read_only_facts disk = record {
  honest = true;
  sectors = length disk.start.now;
  time = calls_made disk.calls;
  marks = λ u. u;
  failures = calls_failed disk.calls;
  plans = [];
  log = replicate (calls_failed disk.calls) Wrote;
  now = disk.start.now;
  may_leave = λ u k c. c ≡ sector disk.start.now k;
}
