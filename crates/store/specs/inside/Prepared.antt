-- A prepared change, its effect on a state, and the effect of preparing a change.
use Rattle.std.specs.Prelude.{◌≡◌, ◌≢◌, ◌⊎◌, ◌↔◌, ℕ, ◌+◌, ◌-◌, ◌<◌, ◌≤◌, Bool, List, length, slice_index_or, IsTrue, IsFalse, Result, Ok, Err, IfOk, IfErr, OnErr}
use Rattle.std.specs.Int.{div_ceil}
use Rattle.sector_disk.specs.Disk.{Sector, sector_bytes}
use Rattle.extents.specs.Extent.{sector_count}
use Rattle.extents.specs.Used.{layout_of}
use Rattle.roots.specs.declared.root.Root.{Root}
use Rattle.roots.specs.declared.version.Version.TheVariants.{Two}
use Rattle.roots.specs.Root.{version_of}
use Rattle.states.specs.Cost.{catalogues_for}
use Rattle.states.specs.Limits.{most_libraries, last_generation}
use Rattle.states.specs.State.{State}
use Rattle.store.specs.declared.change.Staged.TheVariants.{Catalogues, Put}
use Rattle.store.specs.declared.edit.Edit.{Edit}
use Rattle.store.specs.declared.edit.Edit.TheVariants.{Remove}
use Rattle.store.specs.declared.kept.Kept.{Kept}
use Rattle.store.specs.declared.prepared.Prepared.{Prepared}
use Rattle.store.specs.declared.placed_entry.PlacedEntry.{PlacedEntry}
use Rattle.store.specs.declared.holds.HeldRow.{HeldRow}
use Rattle.store.specs.declared.refusal.StoreRefusal.{StoreRefusal}
use Rattle.store.specs.declared.refusal.StoreRefusal.TheVariants.{Device, Reopen, TooMany, GenerationEnd}
use Rattle.store.specs.Holds.{in_use, lone_sectors}
use Rattle.store.specs.Stands.{HasRoom, catalogues_of, entry_sectors, extents_of, name_of, used}
use Rattle.store.specs.Taken.{AreTaken, IsTaken}
use Rattle.store.specs.inside.Change.{CanBeStaged, IsFollowed, staged_sectors}
use Rattle.store.specs.inside.Claimed.{IsClaimedBeside}
use Rattle.store.specs.inside.Edit.{CanEdit, CanEditSectors, edited, gone_entry, gone_sectors}
use Rattle.store.specs.inside.Kept.{IsKept}
use Rattle.store.specs.inside.Moved.{IsMoved}
use Rattle.store.specs.inside.NameIndex.{IsIndex}
use Rattle.store.specs.inside.Next.{IsNext}
use Rattle.store.specs.inside.Stored.{IsStored, ShowsSame}

-- the reasons to refuse a change before anything is taken: the store has to be opened again, or there is no
-- next generation
abbrev pub IsTestedChange : Kept → StoreRefusal → Type 0
IsTestedChange kept e = ((e ≡ Reopen) × IsTrue kept.failed)
    ⊎ ((e ≡ GenerationEnd) × IsFalse kept.failed × (kept.root.generation ≡ last_generation))

-- the reasons to refuse one more byte string before anything is taken: the store has to be opened again,
-- has 2,048 byte strings, or has no next generation
abbrev pub IsTestedNew : Kept → StoreRefusal → Type 0
IsTestedNew kept e = ((e ≡ Reopen) × IsTrue kept.failed)
    ⊎ ((e ≡ TooMany) × IsFalse kept.failed × (most_libraries ≤ length kept.entries.items))
    ⊎ ((e ≡ GenerationEnd) × IsFalse kept.failed × (length kept.entries.items < most_libraries) × (kept.root.generation ≡ last_generation))

-- The staged sectors are claimed in the layout, in addition to those that were claimed before. The
-- next root leads to the new list. After the change, the sectors that only the old list used are
-- given up.
pub record IsPrepared (root : Root) (entries : List PlacedEntry) (held : List HeldRow) (layout : List Bool) (prepared : Prepared) : Type 0 where
  pub before : List Bool
  pub kept : IsKept root entries held before
  pub claimed : IsClaimedBeside before layout (staged_sectors prepared.change.staged)
  pub place : CanBeStaged root.sectors prepared.change.staged (entry_sectors (edited prepared.edit entries))
  pub catalogues : List ℕ
  pub preloads : List ℕ
  pub next : IsNext root (edited prepared.edit entries) catalogues preloads prepared.change.root
  pub moved : IsMoved (used root entries) (staged_sectors prepared.change.staged)
      (used prepared.change.root (edited prepared.edit entries)) (gone_sectors prepared.edit root entries)
  -- there is room for the next change, even if holders keep the sectors of the replaced or removed
  -- entry
  pub room : (sectors : ℕ) → root.sectors ≤ sectors + (length (lone_sectors held) + length (gone_entry prepared.edit entries))
      → HasRoom sectors prepared.change.root.list (edited prepared.edit entries)

-- `prepared` is a change that was prepared on `kept`, the data that a store keeps beside a disk of
-- `sectors` sectors.
pub record IsReady (sectors : ℕ) (kept : Kept) (prepared : Prepared) : Type 0 where
  pub change : IsPrepared kept.root kept.entries.items kept.held kept.layout prepared
  pub list : CanEditSectors prepared.edit kept.sectors
  pub edit : CanEdit prepared.edit kept.entries kept.index.room
  pub indexed : IsIndex kept.entries.items kept.index
  pub size : sectors ≡ kept.root.sectors
  pub two : version_of kept.root ≡ Two
  pub listed : kept.sectors.items ≡ entry_sectors kept.entries.items
  pub usable : IsFalse kept.failed

-- With the bytes `bytes`, the prepared change makes the state `s'` from the state `s`, if the
-- entries `written` were written before the change.
abbrev pub Makes : (now : List Sector) (written : List PlacedEntry) → Kept → Prepared → (bytes : List ℕ) → (s s' : State) → Type 0
Makes now written kept prepared bytes s s' = IsFollowed Two kept.root kept.entries.items s now written prepared.change
    bytes (entry_sectors (edited prepared.edit kept.entries.items)) (edited prepared.edit kept.entries.items) s'

-- the store has the list and the root that the change makes
pub record IsMade (old new : Kept) (prepared : Prepared) : Type 0 where
  pub root : new.root ≡ prepared.change.root
  pub entries : new.entries.items ≡ edited prepared.edit old.entries.items

-- Preparing a change has this effect, with refusals that `Refuses` allows. It doesn't change the
-- store's value in contracts.
pub record Prepares (old new : Kept) (Refuses : StoreRefusal → Type 0) (result : Result Prepared StoreRefusal) : Type 0 where
  pub same : ShowsSame old new
  pub ready : IfOk result (IsReady old.root.sectors new)
  pub stored : OnErr result (IsStored old.root.sectors new)
  pub reopen : (result ≡ Err Reopen) ↔ IsTrue old.failed
  pub refusals : IfErr result Refuses
  pub early : IfErr result (λ e. e ≢ Device)

-- the result, without the prepared change
abbrev pub done_of : Result Prepared StoreRefusal → Result (Unit {0}) StoreRefusal
done_of (Ok prepared) = Ok tt
done_of (Err refusal) = Err refusal

-- the entry with this name is at this position of the list
pub record StandsAt (entries : List PlacedEntry) (name : List ℕ) (position : ℕ) : Type 0 where
  pub inside : position < length entries
  pub named : (d : PlacedEntry) → name_of (slice_index_or entries position d).entry ≡ name

-- The change removes the entry with this name. The sectors of the catalogues weren't in use before.
pub record TakesOut (kept : Kept) (prepared : Prepared) (name : List ℕ) : Type 0 where
  pub position : ℕ
  pub at : StandsAt kept.entries.items name position
  pub edits : prepared.edit ≡ Remove position
  pub staged : prepared.change.staged ≡ Catalogues (catalogues_of prepared.change.root)
  pub taken : AreTaken (layout_of kept.root.sectors (in_use kept.root kept.entries.items kept.held)) (catalogues_of prepared.change.root)
  pub count : length (catalogues_of prepared.change.root) ≡ catalogues_for (length kept.entries.items - 1)

-- The change puts the bytes `bytes`. The sectors of these bytes, of their entry, and of the
-- catalogues for `libraries` libraries weren't in use before.
pub record Puts (kept : Kept) (prepared : Prepared) (edit : PlacedEntry → Edit) (libraries : ℕ) (bytes : List ℕ) : Type 0 where
  pub put : PlacedEntry
  pub edits : prepared.edit ≡ edit put
  pub staged : prepared.change.staged ≡ Put put (catalogues_of prepared.change.root)
  pub taken : IsTaken (layout_of kept.root.sectors (in_use kept.root kept.entries.items kept.held)) (div_ceil (length bytes) sector_bytes)
      (extents_of put.entry) put.at (catalogues_of prepared.change.root)
  pub size : sector_count (extents_of put.entry) ≡ div_ceil (length bytes) sector_bytes
  pub count : length (catalogues_of prepared.change.root) ≡ catalogues_for libraries
