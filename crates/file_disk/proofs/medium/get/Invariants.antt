use Rattle.std.proofs.Common.{◌≡◌, ◌<◌, ◌+◌, ℕ}
use Rattle.sector_disk.specs.Disk.{sector}
use Rattle.sector_disk.specs.Memory.{memory_facts}
use Rattle.file_disk.specs.Medium.{IsSameMedium}
use Rattle.file_disk.proofs.medium.get.Given as goal

abbrev pub invariant-loop-i : goal.invariant-loop-i
invariant-loop-i l = record {
  still : IsSameMedium (memory_facts l.fn.medium) (memory_facts l.medium);
  read : (j : ℕ) → j < l.i → sector l.into j ≡ sector (memory_facts l.fn.medium).now (l.at + j);
}
