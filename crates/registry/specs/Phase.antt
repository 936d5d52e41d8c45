-- The phase of a registry on a disk between two commands, as the step table uses it (own).
use Rattle.std.specs.Prelude.{length}
use Rattle.sector_disk.specs.Disk.{DiskFacts}
use Rattle.store.specs.Holds.{lone_sectors}
use Rattle.store.specs.Opened.{Opened}
use Rattle.store.specs.Step.{longest_unused}
use Rattle.states.specs.State.{State}
use Rattle.requests.specs.Phase.{Phase}

-- the phase of a registry at state s: the facts that the step table uses
abbrev pub phase_of : {D : Type 0} → (D → DiskFacts) → Opened D → State → Phase
phase_of facts registry s = record {
  sectors = (facts registry.disk).sectors;
  lone = length (lone_sectors registry.held);
  longest = longest_unused registry;
  failures = (facts registry.disk).failures;
  failed = registry.failed;
  state = s;
}
