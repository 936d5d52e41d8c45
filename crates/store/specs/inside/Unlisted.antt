-- The sectors of the old list that stay in use after the commit of a draft's list.
use Rattle.std.specs.Prelude.{◌≡◌, ◌↔◌, ℕ, ◌+◌, ◌≤◌, Bool, List, [], ◌++◌, length}
use Rattle.roots.specs.declared.root.Root.{Root}
use Rattle.store.specs.declared.placed_entry.PlacedEntry.{PlacedEntry}
use Rattle.store.specs.declared.holds.HeldRow.{HeldRow}
use Rattle.store.specs.Holds.{IsHeldBy, holders_of, lone_sectors}
use Rattle.store.specs.Stands.{catalogues_of}
use Rattle.store.specs.inside.Draft.{IsDraftList, own_sectors_in}
use Rattle.store.specs.inside.HeldRows.{AreHeldRows}
use Rattle.store.specs.inside.Kept.{IsKept}
use Rattle.store.specs.inside.Moved.{occurs}
use Rattle.store.specs.inside.Room.{AreClaimedOnce, IsReleased}

-- The rows of held byte strings are the same, except for the flag whether the state lists the byte string.
pub record KeepsRows (old new : List HeldRow) : Type 0 where
  pub holders : (sector : ℕ) → holders_of new sector ≡ holders_of old sector
  pub holds : (sector : ℕ) (placed : PlacedEntry) → IsHeldBy old sector placed ↔ IsHeldBy new sector placed
  pub none : old ≡ [] → new ≡ []

-- The store's current list is `standing`. The sectors that this list uses and that the draft's list
-- `drafted` doesn't use are still claimed, and so are the sectors of the current catalogues.
pub record CanReleaseUnlisted (root : Root) (standing drafted : List PlacedEntry) (held : List HeldRow) (layout : List Bool) : Type 0 where
  pub before : List Bool
  pub kept : IsKept root standing held before
  pub list : IsDraftList standing drafted
  pub claimed : AreClaimedOnce layout (own_sectors_in drafted standing ++ catalogues_of root)

-- The sectors of the old list that the draft's list doesn't use are unused now, except those of
-- held byte strings.
pub record ReleasesUnlisted (root : Root) (standing drafted : List PlacedEntry) (held left : List HeldRow) (old new : List Bool) : Type 0 where
  pub freed : List ℕ
  pub parts : (k : ℕ) → occurs k (lone_sectors left) + occurs k freed ≡ occurs k (lone_sectors held) + occurs k (own_sectors_in drafted standing)
  pub few : length (lone_sectors left) ≤ length (lone_sectors held) + length (own_sectors_in drafted standing)
  pub released : IsReleased old new (freed ++ catalogues_of root)
  pub rows : AreHeldRows drafted left
  pub keeps : KeepsRows held left
