-- The data that an update keeps in addition to those of its store. The definitions hold on any
-- disk.
use Rattle.std.specs.Prelude.{◌≡◌, ◌≢◌, ◌↔◌, ℕ, ◌+◌, ◌-◌, ◌*◌, ◌<◌, ◌≤◌, Bool, List, [], length, All, Contains, IsTrue, if◌then◌else◌}
use Rattle.std.specs.Prelude.{Result, Ok, Err, IfOk, IfErr, OnErr}
use Rattle.std.specs.List.{flat_map}
use Rattle.extents.specs.Extent.{AreDistinct}
use Rattle.extents.specs.Layout.{unused_count}
use Rattle.roots.specs.declared.version.Version.TheVariants.{Two}
use Rattle.roots.specs.Root.{listed_preloads, version_of}
use Rattle.states.specs.Cost.{catalogues_for, free}
use Rattle.states.specs.Limits.{last_generation, most_libraries, most_preloads}
use Rattle.states.specs.State.{State}
use Rattle.store.specs.declared.draft.Draft.{Draft}
use Rattle.store.specs.declared.draft.Touched.TheVariants as touched
use Rattle.store.specs.declared.kept.Kept.{Kept}
use Rattle.store.specs.declared.placed_entry.PlacedEntry.{PlacedEntry}
use Rattle.store.specs.declared.refusal.StoreRefusal.{StoreRefusal}
use Rattle.store.specs.declared.refusal.StoreRefusal.TheVariants.{Device, Reopen}
use Rattle.store.specs.Draft.{Drafted, lists}
use Rattle.store.specs.Stands.{HaveOwnNames, catalogues_of, entry_sectors, sectors_of}
use Rattle.store.specs.inside.Claimed.{IsClaimedBeside}
use Rattle.store.specs.inside.Kept.{HaveSpellings, IsKept}
use Rattle.store.specs.inside.NameIndex.{IsIndex}
use Rattle.store.specs.inside.Room.{IsPutTaken}
use Rattle.store.specs.inside.Stored.{opened}

-- the value of an update in contracts
abbrev pub drafting : {D : Type 0} → D → Kept → Draft → Drafted D
drafting disk kept draft = record { store = opened disk kept; entries = draft.entries.items; preloads = draft.preloads.items; touched = draft.touched }

-- the sectors of an entry that aren't also in use by the list `others`: none if `others` has the
-- entry, and otherwise all
abbrev pub own_in : (others : List PlacedEntry) → PlacedEntry → List ℕ
own_in others placed = if lists others placed then [] else sectors_of placed

-- the sectors of `entries` that the list `others` doesn't use, one by one
abbrev pub own_sectors_in : (others entries : List PlacedEntry) → List ℕ
own_sectors_in others entries = flat_map (own_in others) entries

-- If an entry of `others` is in the sector of `placed`, then this entry is `placed`.
abbrev pub IsOneOrApart : List PlacedEntry → PlacedEntry → Type 0
IsOneOrApart others placed = IsTrue (lists others placed) → Contains others placed

-- The entries can be a draft's list: each of them is in the current list, or in a sector that no
-- current entry has.
pub record IsDraftList (standing entries : List PlacedEntry) : Type 0 where
  pub fit : HaveSpellings entries
  pub names : HaveOwnNames entries
  pub few : length entries ≤ most_libraries
  pub once : AreDistinct (entry_sectors entries)
  pub each : All (IsOneOrApart standing) entries

-- `preloads` can be the positions of a draft's preloads, in a list of `libraries` entries
pub record ArePreloads (libraries : ℕ) (preloads : List ℕ) : Type 0 where
  pub few : length preloads ≤ most_preloads
  pub inside : All (λ position. position < libraries) preloads
  pub once : AreDistinct preloads

-- The number of sectors that stay unused beside a draft of `libraries` byte strings, if the current
-- list has `standing` catalogues. These sectors are for the catalogues of the commit, and for those
-- of the change after the commit.
abbrev pub spare_of : (standing libraries : ℕ) → ℕ
spare_of standing libraries = standing + 2 * (catalogues_for libraries - standing)

-- exactly the sectors of the current state, of held byte strings and of the entries that the update wrote
-- are claimed in the layout, and there is room for the commit
pub record IsStagedIn (kept : Kept) (entries : List PlacedEntry) : Type 0 where
  pub standing : List Bool
  pub stands : IsKept kept.root kept.entries.items kept.held standing
  pub claimed : IsClaimedBeside standing kept.layout (own_sectors_in kept.entries.items entries)
  pub room : spare_of (length (catalogues_of kept.root)) (length entries) ≤ unused_count kept.layout

-- The data that an update keeps beside a disk of `sectors` sectors are consistent.
pub record IsDrafting (sectors : ℕ) (kept : Kept) (draft : Draft) : Type 0 where
  pub staged : IsStagedIn kept draft.entries.items
  pub indexed : IsIndex kept.entries.items kept.index
  pub size : sectors ≡ kept.root.sectors
  pub listed : kept.sectors.items ≡ entry_sectors kept.entries.items
  pub two : version_of kept.root ≡ Two
  pub list : IsDraftList kept.entries.items draft.entries.items
  pub index : IsIndex draft.entries.items draft.index
  pub places : draft.sectors.items ≡ entry_sectors draft.entries.items
  pub preloads : ArePreloads (length draft.entries.items) draft.preloads.items
  pub later : draft.touched ≢ touched.Nothing → kept.root.generation ≢ last_generation
  pub same : draft.touched ≢ touched.List → draft.entries.items ≡ kept.entries.items
  pub first : draft.touched ≡ touched.Nothing → draft.preloads.items ≡ listed_preloads kept.root

-- the data `kept`, with the layout `layout` in place of its own
abbrev pub with_layout : Kept → List Bool → Kept
with_layout kept layout = record {
  root = kept.root;
  entries = kept.entries;
  sectors = kept.sectors;
  singles = kept.singles;
  index = kept.index;
  held = kept.held;
  layout = layout;
  failed = kept.failed;
}

-- the list and the held byte strings stay the same
pub record KeepsList (old new : Kept) : Type 0 where
  pub root : new.root ≡ old.root
  pub entries : new.entries ≡ old.entries
  pub sectors : new.sectors ≡ old.sectors
  pub index : new.index ≡ old.index
  pub held : new.held ≡ old.held

-- Sectors were taken for the bytes in addition to a draft's sectors, and only the layout changed;
-- or the call refused, and nothing changed.
pub record TakesBeside (old new : Kept) (name bytes : List ℕ) (spare : ℕ) (Refuses : StoreRefusal → Type 0)
    (result : Result PlacedEntry StoreRefusal) : Type 0 where
  pub kept : new ≡ with_layout old new.layout
  pub taken : IfOk result (λ put. IsPutTaken old.layout new.layout name bytes 0 spare put [])
  pub same : OnErr result (new.layout ≡ old.layout)
  pub reopen : (result ≡ Err Reopen) ↔ IsTrue old.failed
  pub refusals : IfErr result Refuses
  pub early : IfErr result (λ e. e ≢ Device)

-- The generation, the number of byte strings and the free sectors of a draft's state, on a disk of
-- `sectors` sectors, agree with `kept`.
pub record IsDraftCounted (kept : Kept) (libraries sectors : ℕ) (d : State) : Type 0 where
  pub generation : d.generation ≡ kept.root.generation
  pub count : length d.libraries ≡ libraries
  pub free : free sectors d + spare_of (length (catalogues_of kept.root)) libraries ≡ unused_count kept.layout

-- the result without the entry
abbrev pub taken_of : Result PlacedEntry StoreRefusal → Result (Unit {0}) StoreRefusal
taken_of (Ok put) = Ok tt
taken_of (Err refusal) = Err refusal
