-- The unused sectors that a change takes for bytes, their entry and the catalogues.
use Rattle.std.specs.Prelude.{◌≡◌, ℕ, ◌*◌, ◌<◌, Bool, true, List, [], ◌∷◌, ◌++◌, length, set}
use Rattle.std.specs.Prelude.{slice_index_or, IsTrue}
use Rattle.std.specs.Int.{div_ceil}
use Rattle.std.specs.List.{remove}
use Rattle.sector_disk.specs.Disk.{Sector, sector_bytes, DiskFacts, Mixture}
use Rattle.extents.specs.declared.extent.Extent.{Extent}
use Rattle.extents.specs.Extent.{one_sector, places}
use Rattle.extents.specs.Layout.{IsLowestUnused, with_flag, with_flags}
use Rattle.extents.specs.Taken.{taken}
use Rattle.extents.specs.Used.{layout_of}
use Rattle.passes.specs.Bytes.{bytes_at, padded}
use Rattle.store.specs.declared.placed_entry.PlacedEntry.{PlacedEntry}
use Rattle.store.specs.Opened.{Opened}
use Rattle.store.specs.Holds.{layout_in_use}
use Rattle.store.specs.Stands.{name_of, extents_of, catalogues_of, used}

-- the sectors of the list are taken from this layout one after the other; each is the lowest sector
-- that is unused at its turn
abbrev pub AreTaken : List Bool → List ℕ → Type 0
AreTaken layout [] = Unit
AreTaken layout (k ∷ ks) = IsLowestUnused layout k × AreTaken (with_flag true (one_sector k) layout) ks

-- sectors of this layout are taken: first those of the extents, which `taken` chooses; then the
-- lowest unused sector, for the entry; and then the sectors of the catalogues
pub record IsTaken (layout : List Bool) (need : ℕ) (extents : List Extent) (at : ℕ) (catalogues : List ℕ) : Type 0 where
  pub bytes : extents ≡ taken need layout
  pub entry : IsLowestUnused (with_flags true extents layout) at
  pub listed : AreTaken (with_flag true (one_sector at) (with_flags true extents layout)) catalogues

-- in every mixture of the disk the extents have the bytes, followed by zeros up to whole sectors
abbrev pub HaveBytes : DiskFacts → List Extent → List ℕ → Type 0
HaveBytes disk extents bytes = (m : List Sector) → Mixture disk m
    → bytes_at m (places extents)
    ≡ padded (sector_bytes * div_ceil (length bytes) sector_bytes) bytes

-- One entry was appended to the list. The sectors of the entry, of its bytes and of the catalogues
-- weren't in use before.
pub record IsPutBehind {D : Type 0} (facts : D → DiskFacts) (old new : Opened D)
    (bytes : List ℕ) : Type 0 where
  pub put : PlacedEntry
  pub taken : IsTaken (layout_in_use old) (div_ceil (length bytes) sector_bytes)
      (extents_of put.entry) put.at (catalogues_of new.root)
  pub entries : new.entries ≡ old.entries ++ put ∷ []
  -- on an honest disk, the extents of the new entry have the bytes after the put
  pub written : IsTrue (facts old.disk).honest
      → HaveBytes (facts new.disk) (extents_of put.entry) bytes

-- the entry with this name is at this position
pub record IsNamedAt {D : Type 0} (store : Opened D) (name : List ℕ) (position : ℕ) : Type 0 where
  pub inside : position < length store.entries
  pub named : (d : PlacedEntry) → name_of (slice_index_or store.entries position d).entry ≡ name

-- an entry replaced the entry with the name `name`; the sectors of the new entry, of its bytes and
-- of the catalogues weren't in use before
pub record IsPutOver {D : Type 0} (facts : D → DiskFacts) (old new : Opened D)
    (name bytes : List ℕ) : Type 0 where
  pub position : ℕ
  pub at : IsNamedAt old name position
  pub put : PlacedEntry
  pub taken : IsTaken (layout_in_use old) (div_ceil (length bytes) sector_bytes)
      (extents_of put.entry) put.at (catalogues_of new.root)
  pub entries : new.entries ≡ set old.entries position put
  -- on an honest disk, the extents of the new entry have the bytes after the put
  pub written : IsTrue (facts old.disk).honest
      → HaveBytes (facts new.disk) (extents_of put.entry) bytes

-- The entry with this name was removed. The sectors of the catalogues weren't in use before, so
-- none of them is a sector of the removed entry.
pub record IsTakenOut {D : Type 0} (old new : Opened D) (name : List ℕ) : Type 0 where
  pub position : ℕ
  pub at : IsNamedAt old name position
  pub taken : AreTaken (layout_in_use old) (catalogues_of new.root)
  pub entries : new.entries ≡ remove old.entries position

-- Catalogues list the same entries as before. The sectors of the catalogues weren't in use before.
pub record IsRelisted {D : Type 0} (old new : Opened D) : Type 0 where
  pub taken : AreTaken (layout_of old.root.sectors (used old.root old.entries)) (catalogues_of new.root)
  pub entries : new.entries ≡ old.entries
