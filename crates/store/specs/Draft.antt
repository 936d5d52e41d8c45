-- The draft of an update: the list that the update has made so far. No root leads to this list before
-- the commit.
use Rattle.std.specs.Prelude.{◌≡◌, ◌≢◌, ◌==◌, ℕ, ◌+◌, ◌-◌, ◌*◌, ◌<◌, Bool, not, List, [], ◌∷◌, ◌++◌, length, map, filter, set, slice_index_or}
use Rattle.std.specs.Prelude.{All, IsTrue, Result, IfOk, OnErr}
use Rattle.std.specs.Global.{Vec}
use Rattle.std.specs.Int.{div_ceil}
use Rattle.std.specs.List.{flat_map, list_any, remove}
use Rattle.sector_disk.specs.Disk.{Sector, sector, sector_bytes, DiskFacts, LeavesOnly}
use Rattle.extents.specs.Extent.{places, sector_count}
use Rattle.extents.specs.Longest.{longest_runs}
use Rattle.extents.specs.Used.{layout_of}
use Rattle.passes.specs.Bytes.{bytes_at, padded}
use Rattle.roots.specs.Entry.{SpellsEntry}
use Rattle.roots.specs.Root.{listed_preloads}
use Rattle.states.specs.Changes.{next}
use Rattle.states.specs.Cost.{catalogues_for}
use Rattle.states.specs.State.{State}
use Rattle.store.specs.declared.draft.Touched.{Touched}
use Rattle.store.specs.declared.draft.Touched.TheVariants.{Nothing, Preloads, List as Listed}
use Rattle.store.specs.declared.placed_entry.PlacedEntry.{PlacedEntry}
use Rattle.store.specs.declared.refusal.StoreRefusal.{StoreRefusal}
use Rattle.store.specs.declared.refusal.StoreRefusal.TheVariants.{Device, Reopen}
use Rattle.store.specs.Changed.{Changed}
use Rattle.store.specs.Holds.{KeepsHeld, in_use, lone_sectors}
use Rattle.store.specs.Opened.{Opened, IsAt}
use Rattle.store.specs.Reads.{ReadsBlob}
use Rattle.roots.specs.declared.version.Version.TheVariants.{Two}
use Rattle.store.specs.Stands.{Stands, catalogues_of, entries_cost, extents_of, library_of, name_of, names_at, no_library, sectors_of}
use Rattle.store.specs.Taken.{IsTaken}

-- an update: its store and its draft
pub record Drafted (D : Type 0) : Type 0 where
  -- the store with the current state; before the commit, the update changes only its disk, and the
  -- flag whether a call failed
  pub store : Opened D
  -- the draft's list, which has entries of the store and entries that the update wrote
  pub entries : List PlacedEntry
  -- the positions of the draft's preloads in the draft's list
  pub preloads : List ℕ
  -- which part of the draft was changed
  pub touched : Touched

-- one of `entries` is in the sector of `placed`
abbrev pub lists : List PlacedEntry → PlacedEntry → Bool
lists entries placed = list_any (λ other. other.at == placed.at) entries

-- the elements of `entries` that aren't in the sector of any entry of `others`
abbrev pub apart_from : (others : List PlacedEntry) → List PlacedEntry → List PlacedEntry
apart_from others entries = filter (λ placed. not (lists others placed)) entries

-- the entries that the update wrote and that are still in the draft's list
abbrev pub staged : {D : Type 0} → Drafted D → List PlacedEntry
staged u = apart_from u.store.entries u.entries

-- the entries of the current list that aren't in the draft's list
abbrev pub left_out : {D : Type 0} → Drafted D → List PlacedEntry
left_out u = apart_from u.entries u.store.entries

-- the layout of the disk in which the claimed sectors are exactly those of the current state, of
-- held byte strings, and of the entries that the update wrote
abbrev pub layout_drafted : {D : Type 0} → Drafted D → List Bool
layout_drafted u = layout_of u.store.root.sectors (in_use u.store.root u.store.entries u.store.held ++ flat_map sectors_of (staged u))

-- the number of sectors of the 32 longest unused runs in the layout of a draft
abbrev pub longest_drafted : {D : Type 0} → Drafted D → ℕ
longest_drafted u = sector_count (longest_runs (layout_drafted u))

-- The number of sectors that the draft's state can't use: those of the current entries that aren't
-- in the draft's list; those that only held byte strings use; and, if the current list has more
-- catalogues than the draft's list needs, two sectors for each of these additional catalogues.
abbrev pub beside : {D : Type 0} → Drafted D → ℕ
beside u = entries_cost (left_out u) + length (lone_sectors u.store.held)
    + 2 * (length (catalogues_of u.store.root) - catalogues_for (length u.entries))

-- the number of sectors that the draft's state can use
abbrev pub room_drafted : {D : Type 0} → Drafted D → ℕ
room_drafted u = u.store.root.sectors - beside u

-- the state with the generation `generation` that the entries and preloads of a draft describe, if
-- the disk's sectors are `m`
abbrev pub draft_state : List Sector → (generation : ℕ) → List PlacedEntry → (preloads : List ℕ) → State
draft_state m generation entries preloads = record {
  generation = generation;
  libraries = map (library_of m) entries;
  preloads = names_at (map (library_of m) entries) preloads;
}

-- Every mixture of the store's disk holds the current state `s`. The sectors that reads return encode
-- the draft's entries, and these entries describe the state `d`.
pub record IsDraftedAt {D : Type 0} (facts : D → DiskFacts) (u : Drafted D) (s d : State) : Type 0 where
  pub stands : IsAt facts u.store s
  pub spelt : All (λ placed. SpellsEntry (sector (facts u.store.disk).now placed.at) placed.entry) u.entries
  pub is : d ≡ draft_state (facts u.store.disk).now s.generation u.entries u.preloads

-- a draft's state after a change whose result is `changed`: the libraries and preloads of
-- `changed`, with the draft's generation
abbrev pub drafted : (d changed : State) → State
drafted d changed = record { generation = d.generation; libraries = changed.libraries; preloads = changed.preloads }

-- the state after the commit of a draft: the current state if the draft has no change, and
-- otherwise the draft's state with the next generation
abbrev pub committed : Touched → (s d : State) → State
committed Nothing s d = s
committed touched s d = next s d.libraries d.preloads

-- the number of calls of a commit: none if the draft has no change; if only the preloads were
-- changed, a write of the root and a sync; otherwise a write for each catalogue, a sync, a write of
-- the root, and a sync
abbrev pub commit_calls : Touched → ℕ → ℕ
commit_calls Nothing libraries = 0
commit_calls Preloads libraries = 2
commit_calls Listed libraries = catalogues_for libraries + 3

-- the draft of an update that has just begun
abbrev pub begun : {D : Type 0} → Opened D → Drafted D
begun store = record { store = store; entries = store.entries; preloads = listed_preloads store.root; touched = Nothing }

-- no byte string of the draft has this name
abbrev pub IsNewToDraft : {D : Type 0} → Drafted D → List ℕ → Type 0
IsNewToDraft u name = All (λ placed. name_of placed.entry ≢ name) u.entries

-- the entry with this name is at this position of the draft's list
pub record IsDraftedNamed {D : Type 0} (u : Drafted D) (name : List ℕ) (position : ℕ) : Type 0 where
  pub inside : position < length u.entries
  pub named : (d : PlacedEntry) → name_of (slice_index_or u.entries position d).entry ≡ name

-- no preload of the draft has this name
abbrev pub IsNoPreloadOfDraft : {D : Type 0} → Drafted D → List ℕ → Type 0
IsNoPreloadOfDraft u name = All (λ position. (d : PlacedEntry) → name_of (slice_index_or u.entries position d).entry ≢ name) u.preloads

-- A stop at any moment leaves the current state. In memory, the current state and the held byte strings
-- are unchanged.
pub record StaysBeside {D : Type 0} (facts : D → DiskFacts) (old new : Drafted D) : Type 0 where
  pub any_moment : (s : State) → IsAt facts old.store s → LeavesOnly (facts old.store.disk) (facts new.store.disk) (λ m. Stands m s)
  pub root : new.store.root ≡ old.store.root
  pub entries : new.store.entries ≡ old.store.entries
  pub table : new.store.held ≡ old.store.held
  pub held : KeepsHeld facts old.store new.store

-- `old` and `new` have the same entries, the same preloads, and the same value of `touched`
pub record IsSameDraft {D : Type 0} (old new : Drafted D) : Type 0 where
  pub entries : new.entries ≡ old.entries
  pub preloads : new.preloads ≡ old.preloads
  pub touched : new.touched ≡ old.touched

-- On any disk, a change of a draft made at most `most` calls, and refused only with refusals that
-- `Refuses` allows. A refusal leaves the draft unchanged.
pub record IsLine {D : Type 0} (facts : D → DiskFacts) (old new : Drafted D) (most : ℕ) (Refuses : StoreRefusal → Type 0)
    (result : Result (Unit {0}) StoreRefusal) : Type 0 where
  pub beside : StaysBeside facts old new
  pub changed : Changed facts Device Reopen old.store new.store most Refuses result
  pub refused : OnErr result (IsSameDraft old new)

-- On an honest disk, reads of the extents of the entry `put` return `bytes`, followed by zeros.
abbrev pub ReadBytes : DiskFacts → PlacedEntry → List ℕ → Type 0
ReadBytes disk put bytes = IsTrue disk.honest
    → bytes_at disk.now (places (extents_of put.entry)) ≡ padded (sector_bytes * div_ceil (length bytes) sector_bytes) bytes

-- One entry was appended to the draft's list. The sectors of this entry and of its bytes weren't in use.
pub record IsDraftedBehind {D : Type 0} (facts : D → DiskFacts) (old new : Drafted D) (bytes : List ℕ) : Type 0 where
  pub put : PlacedEntry
  pub taken : IsTaken (layout_drafted old) (div_ceil (length bytes) sector_bytes) (extents_of put.entry) put.at []
  pub entries : new.entries ≡ old.entries ++ put ∷ []
  pub preloads : new.preloads ≡ old.preloads
  pub touched : new.touched ≡ Listed
  pub written : ReadBytes (facts new.store.disk) put bytes

-- The entry with the name `name` was replaced in the draft. The sectors of the new entry and of its bytes
-- weren't in use.
pub record IsDraftedOver {D : Type 0} (facts : D → DiskFacts) (old new : Drafted D) (name bytes : List ℕ) : Type 0 where
  pub position : ℕ
  pub at : IsDraftedNamed old name position
  pub put : PlacedEntry
  pub taken : IsTaken (layout_drafted old) (div_ceil (length bytes) sector_bytes) (extents_of put.entry) put.at []
  pub entries : new.entries ≡ set old.entries position put
  pub preloads : new.preloads ≡ old.preloads
  pub touched : new.touched ≡ Listed
  pub written : ReadBytes (facts new.store.disk) put bytes

-- the draft's entry with this name was removed
pub record IsDraftedOut {D : Type 0} (old new : Drafted D) (name : List ℕ) : Type 0 where
  pub position : ℕ
  pub at : IsDraftedNamed old name position
  pub entries : new.entries ≡ remove old.entries position
  pub touched : new.touched ≡ Listed

-- the value of `touched` after preloads were set: `List` if the list was changed before, and
-- otherwise `Preloads`
abbrev pub touched_preloads : Touched → Touched
touched_preloads Nothing = Preloads
touched_preloads touched = touched

-- the store as it would be if it listed the draft's entries
abbrev pub listing : {D : Type 0} → Drafted D → Opened D
listing u = record { disk = u.store.disk; root = u.store.root; entries = u.entries; held = u.store.held; failed = u.store.failed }

-- The byte string at `position` of the draft was read. Each sector of the byte string was read
-- once, and nothing was written. The clauses are those of a read from a store that lists the
-- draft's entries.
pub record ReadsDraft {D : Type 0} (facts : D → DiskFacts) (old new : Drafted D) (position : ℕ) (result : Result (Vec ℕ) StoreRefusal) : Type 0 where
  pub read : ReadsBlob Two facts (listing old) (listing new) position result
  pub ok : (s d : State) → IsDraftedAt facts old s d → IfOk result (λ bytes. bytes.items ≡ (slice_index_or d.libraries position no_library).bytes)
  pub same : (s d : State) → IsDraftedAt facts old s d → IsDraftedAt facts new s d
  pub stands : new.store.entries ≡ old.store.entries
  pub draft : IsSameDraft old new
