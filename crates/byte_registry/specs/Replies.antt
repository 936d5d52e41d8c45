-- The possible answers of a registry that was just opened on given sectors (own).
use Rattle.std.specs.Prelude.{ℕ, List, length, [], false}
use Rattle.sector_disk.specs.Disk.{Sector}
use Rattle.roots.specs.declared.root.Root.{Root}
use Rattle.roots.specs.declared.version.Version.TheVariants.{Two}
use Rattle.states.specs.State.{State}
use Rattle.store.specs.declared.placed_entry.PlacedEntry.{PlacedEntry}
use Rattle.store.specs.Opened.{Opened}
use Rattle.store.specs.Stands.{StandsBy}
use Rattle.store.specs.Step.{longest_unused}
use Rattle.requests.specs.Phase.{Phase}
use Rattle.requests.specs.Request.{Request}
use Rattle.requests.specs.declared.reply.Reply.{Reply}
use Rattle.registry.specs.Untested.{UntestedStep}

-- a registry that was just opened on a disk, with this root and these entries; no byte string is held
abbrev pub opened_on : {D : Type 0} → D → Root → List PlacedEntry → Opened D
opened_on disk root entries = record { disk = disk; root = root; entries = entries; held = []; failed = false }

-- the phase of a registry that was just opened, for the step table, after `failures` failed calls
abbrev pub phase_on : List Sector → Root → List PlacedEntry → ℕ → State → Phase
phase_on m root entries failures s = record {
  sectors = length m;
  lone = 0;
  longest = longest_unused (opened_on m root entries);
  failures = failures;
  failed = false;
  state = s;
}

-- The sectors hold state s, and the step table allows the reply `reply` to the request.
pub record IsReplyOn (m : List Sector) (s : State) (request : Request) (reply : Reply) : Type 0 where
  pub root : Root
  pub entries : List PlacedEntry
  pub by : StandsBy Two m root entries s
  pub failures : ℕ
  pub after : Phase
  pub step : UntestedStep (phase_on m root entries failures s) request reply after
