-- Everything that a store keeps beside its disk.
use Rattle.std.specs.Prelude.{◌≡◌, ◌+◌, ◌-◌, ℕ, Bool, List, length, IsFalse}
use Rattle.extents.specs.Extent.{sector_count}
use Rattle.extents.specs.Layout.{unused_count}
use Rattle.extents.specs.Longest.{longest_runs}
use Rattle.extents.specs.Used.{layout_of}
use Rattle.roots.specs.declared.root.Root.{Root}
use Rattle.roots.specs.declared.version.Version.TheVariants.{Two}
use Rattle.roots.specs.Root.{version_of}
use Rattle.states.specs.Cost.{catalogues_for, free}
use Rattle.states.specs.State.{State}
use Rattle.store.specs.declared.kept.Kept.{Kept}
use Rattle.store.specs.declared.placed_entry.PlacedEntry.{PlacedEntry}
use Rattle.store.specs.declared.holds.HeldRow.{HeldRow}
use Rattle.store.specs.Holds.{in_use, lone_sectors}
use Rattle.store.specs.Opened.{Opened}
use Rattle.store.specs.Stands.{entry_sectors}
use Rattle.store.specs.inside.Kept.{IsKept}
use Rattle.store.specs.inside.NameIndex.{IsIndex}

-- the value in contracts of a store whose disk is `disk` and whose data are `kept`
abbrev pub opened : {D : Type 0} → D → Kept → Opened D
opened disk kept = record { disk = disk; root = kept.root; entries = kept.entries.items; held = kept.held; failed = kept.failed }

-- the data that a store keeps beside a disk of `sectors` sectors are consistent
abbrev pub IsStored : ℕ → Kept → Type 0
IsStored sectors kept = IsKept kept.root kept.entries.items kept.held kept.layout
    × IsIndex kept.entries.items kept.index
    × (sectors ≡ kept.root.sectors)
    × (IsFalse kept.failed → kept.sectors.items ≡ entry_sectors kept.entries.items)
    × (version_of kept.root ≡ Two)

-- the number of sectors that the state can use: all except those that only held byte strings use
abbrev pub sectors_for : Kept → ℕ
sectors_for kept = kept.root.sectors - length (lone_sectors kept.held)

-- the number of sectors of the 32 longest unused runs; 32 is the maximum number of extents of a
-- byte string
abbrev pub longest_in : Kept → ℕ
longest_in kept = sector_count (longest_runs kept.layout)

-- `old` and `new` have the same value in contracts: the same root, entries and held byte strings,
-- and the same flag whether a call failed.
pub record ShowsSame (old new : Kept) : Type 0 where
  pub root : new.root ≡ old.root
  pub entries : new.entries.items ≡ old.entries.items
  pub held : new.held ≡ old.held
  pub failed : new.failed ≡ old.failed

-- The generation, the number of libraries, the free sectors and the longest runs of the state agree with
-- the data that the store keeps.
pub record IsCounted (root : Root) (entries : List PlacedEntry) (held : List HeldRow) (layout : List Bool) (s : State) : Type 0 where
  pub generation : s.generation ≡ root.generation
  pub count : length s.libraries ≡ length entries
  pub room : free (root.sectors - length (lone_sectors held)) s + catalogues_for (length entries) ≡ unused_count layout
  pub longest : sector_count (longest_runs (layout_of root.sectors (in_use root entries held))) ≡ sector_count (longest_runs layout)
