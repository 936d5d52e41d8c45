-- The data that a store keeps beside its disk. The definitions hold on any disk.
use Rattle.std.specs.Prelude.{◌≡◌, ◌-◌, ℕ, Bool, List, ◌++◌, length, All}
use Rattle.extents.specs.Extent.{AreDistinct}
use Rattle.extents.specs.Used.{ClaimsJust}
use Rattle.roots.specs.declared.root.Root.{Root}
use Rattle.roots.specs.Root.{RootHasSpelling}
use Rattle.roots.specs.Entry.{EntryHasSpelling}
use Rattle.store.specs.declared.placed_entry.PlacedEntry.{PlacedEntry}
use Rattle.store.specs.declared.holds.HeldRow.{HeldRow}
use Rattle.store.specs.Holds.{lone_sectors}
use Rattle.store.specs.Stands.{used, UsesApart, HasRoom, HaveOwnNames}
use Rattle.store.specs.inside.Claimed.{IsUsable}
use Rattle.store.specs.inside.HeldRows.{AreHeldRows}

-- each entry can be encoded
abbrev pub HaveSpellings : List PlacedEntry → Type 0
HaveSpellings entries = All (λ placed. EntryHasSpelling placed.entry) entries

-- In the layout of a disk of `sectors` sectors, the claimed sectors are exactly those in use, each
-- used once: those that the state uses, and those that only held byte strings use.
pub record AreClaimed (sectors : ℕ) (layout : List Bool) (used lone : List ℕ) : Type 0 where
  pub inside : All (IsUsable sectors) lone
  pub once : AreDistinct (used ++ lone)
  pub claims : ClaimsJust layout (used ++ lone)

pub record IsKept (root : Root) (entries : List PlacedEntry) (held : List HeldRow) (layout : List Bool) : Type 0 where
  pub root_fits : RootHasSpelling root
  pub size : length layout ≡ root.sectors
  pub counted : length entries ≡ root.library_count
  pub entries_fit : HaveSpellings entries
  pub apart : UsesApart root.sectors root entries
  -- in addition to the sectors that only held byte strings use, there is room for the catalogues of
  -- the next change
  pub room : HasRoom (root.sectors - length (lone_sectors held)) root.list entries
  pub names : HaveOwnNames entries
  pub rows : AreHeldRows entries held
  pub claimed : AreClaimed root.sectors layout (used root entries) (lone_sectors held)
