-- The sectors that aren't free because binders hold them (own).
use Rattle.std.specs.Prelude.{◌≡◌, ◌≢◌, ◌↔◌, ◌<◌, List, length, sum_by, AllPairs, Contains}
use Rattle.store.specs.Holds.{IsHeldBy, lone_sectors}
use Rattle.store.specs.Stands.{sectors_of}
use Rattle.store.specs.declared.placed_entry.PlacedEntry.{PlacedEntry}
use Rattle.binders.specs.Slotted.{Slotted, held_by}

-- the binder in some slot holds this byte string, and the state no longer lists it
pub record IsLone {D : Type 0} (binders : Slotted D) (placed : PlacedEntry) : Type 0 where
  pub held : 0 < held_by binders.slots placed.at
  pub hold : IsHeldBy binders.registry.held placed.at placed
  pub unlisted : Contains binders.registry.entries placed → ⊥

-- `holds` lists each byte string that only binders hold. It lists such a byte string once, even if
-- several binders hold it. The sectors that aren't free are exactly those of the state and those of
-- these byte strings.
pub record CountsOnce {D : Type 0} (binders : Slotted D) : Type 0 where
  pub holds : List PlacedEntry
  pub once : AllPairs (λ a b. a.at ≢ b.at) holds
  pub lone : (placed : PlacedEntry) → Contains holds placed ↔ IsLone binders placed
  pub sectors : length (lone_sectors binders.registry.held) ≡ sum_by (λ placed. length (sectors_of placed)) holds
