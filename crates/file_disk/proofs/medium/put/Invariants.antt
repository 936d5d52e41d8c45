use Rattle.std.proofs.Common.{◌≡◌}
use Rattle.sector_disk.specs.Memory.{memory_facts}
use Rattle.file_disk.specs.Medium.{HasWritten}
use Rattle.file_disk.proofs.medium.put.Given as goal

abbrev pub invariant-loop-content : goal.invariant-loop-content
invariant-loop-content l = record {
  done : l.done ≡ l.content-index;
  written : HasWritten l.at l.from l.done (memory_facts l.fn.medium) (memory_facts l.medium);
  failures : (memory_facts l.medium).failures ≡ (memory_facts l.fn.medium).failures;
}
