-- The facts of a disk in memory, computed from its writes and its moments.
use Rattle.std.specs.Prelude.{ℕ, List, [], take, length, true, false, slice_index_or, filter, Contains}
use Rattle.sector_disk.specs.declared.moment.Moment.{Moment}
use Rattle.sector_disk.specs.declared.written.Written.{Written}
use Rattle.sector_disk.specs.Disk.{Sector, DiskFacts}
use Rattle.sector_disk.specs.Written.{contents, choices}

-- moment number u: a past moment or, if u isn't past, the present one
abbrev pub moment_at : List Written → ℕ → List Moment → ℕ → Moment
moment_at writes synced past u = slice_index_or past u (record { writes = length writes; synced = synced; failed = false })

-- the facts of a disk with the contents `start` at its start, after these writes, the first
-- `synced` of which are synced
abbrev pub facts_of : List Sector → List Written → ℕ → List Moment → DiskFacts
facts_of start writes synced past = record {
  honest = true;
  sectors = length start;
  time = length past;
  marks = λ u. u;
  failures = length (filter (λ moment. moment.failed) past);
  plans = [];
  log = [];
  now = contents start writes;
  may_leave = λ u k c. let moment = moment_at writes synced past u in Contains (choices start (take moment.writes writes) moment.synced k) c;
}
