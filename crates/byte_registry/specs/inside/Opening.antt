-- A registry that was opened on bytes (own).
use Rattle.std.specs.Prelude.{◌≡◌, ℕ, List, []}
use Rattle.sector_disk.specs.Disk.{LeavesOnly, MayAddSync, Mixture}
use Rattle.byte_disk.specs.declared.disk.ByteDisk.{ByteDisk}
use Rattle.byte_disk.specs.ByteDisk.{byte_facts}
use Rattle.states.specs.State.{State}
use Rattle.store.specs.Opened.{Opened, IsAt}
use Rattle.store.specs.Stands.{Stands}
use Rattle.byte_registry.specs.Asked.{IsDiskOf}

-- A registry was opened on a disk with these bytes. Nothing was written, and the registry is at the
-- only state that the bytes hold.
pub record IsOpenedOn (bytes : List ℕ) (opened : Opened ByteDisk) : Type 0 where
  -- the disk before any call
  pub disk : ByteDisk
  pub of_bytes : IsDiskOf bytes disk
  pub any_moment : LeavesOnly (byte_facts disk) (byte_facts opened.disk) (Mixture (byte_facts disk))
  pub now : (byte_facts opened.disk).now ≡ (byte_facts disk).now
  pub log : MayAddSync (byte_facts disk).log (byte_facts opened.disk).log
  pub found : (s : State) × Stands (byte_facts disk).now s × IsAt byte_facts opened s × ((other : State) → Stands (byte_facts disk).now other → other ≡ s)
  pub unheld : opened.held ≡ []
