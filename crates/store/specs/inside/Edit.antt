-- A change of the list of entries, and the sectors that it gives up.
use Rattle.std.specs.Prelude.{◌≡◌, ◌≢◌, ℕ, ◌<◌, ◌≤◌, Bool, List, [], ◌∷◌, ◌++◌, length, set, slice_index_or, All, vec_len, vec_capacity}
use Rattle.std.specs.Global.{Vec}
use Rattle.std.specs.List.{remove}
use Rattle.roots.specs.declared.root.Root.{Root}
use Rattle.roots.specs.Entry.{EntryHasSpelling}
use Rattle.store.specs.declared.edit.Edit.{Edit}
use Rattle.store.specs.declared.edit.Edit.TheVariants.{Nothing, Append, Replace, Remove}
use Rattle.store.specs.declared.placed_entry.PlacedEntry.{PlacedEntry}
use Rattle.store.specs.declared.holds.HeldRow.{HeldRow}
use Rattle.store.specs.Stands.{catalogues_of, name_of, sectors_of}
use Rattle.store.specs.inside.Room.{IsGivenUp, IsReleased}

-- an entry that stands for positions that have no entry
abbrev pub no_entry : PlacedEntry
no_entry = record { at = 0; entry = record { file_length = 0; name_length = 0; extent_count = 0; name = []; extents = [] } }

-- the list after the edit; it has one element for each entry, and `of` returns the element of an entry
abbrev pub edited_by : {A : Type 0} → (PlacedEntry → A) → Edit → List A → List A
edited_by of Nothing list = list
edited_by of (Append put) list = list ++ of put ∷ []
edited_by of (Replace position put) list = set list position (of put)
edited_by of (Remove position) list = remove list position

-- the entries after the edit
abbrev pub edited : Edit → List PlacedEntry → List PlacedEntry
edited edit entries = edited_by (λ placed. placed) edit entries

-- the position of the edit, if it has one, is below `count`
abbrev pub IsWithin : Edit → ℕ → Type 0
IsWithin Nothing count = Unit
IsWithin (Append put) count = Unit
IsWithin (Replace position put) count = position < count
IsWithin (Remove position) count = position < count

-- after the edit, no two entries have the same name
abbrev pub KeepsNames : Edit → List PlacedEntry → Type 0
KeepsNames Nothing entries = Unit
KeepsNames (Append put) entries = All (λ other. name_of other.entry ≢ name_of put.entry) entries
KeepsNames (Replace position put) entries = name_of (slice_index_or entries position no_entry).entry ≡ name_of put.entry
KeepsNames (Remove position) entries = Unit

-- if the edit puts an entry, this entry can be encoded
abbrev pub IsSpelt : Edit → Type 0
IsSpelt Nothing = Unit
IsSpelt (Append put) = EntryHasSpelling put.entry
IsSpelt (Replace position put) = EntryHasSpelling put.entry
IsSpelt (Remove position) = Unit

-- if the edit adds an element, the memory of the list has room for one more
abbrev pub HasMemory : {A : Type 0} → Edit → Vec A → Type 0
HasMemory Nothing list = Unit
HasMemory (Append put) list = vec_len list < vec_capacity list
HasMemory (Replace position put) list = Unit
HasMemory (Remove position) list = Unit

-- if the edit adds an entry, the order of the names has room for one more position
abbrev pub HasPlaces : Edit → ℕ → Type 0
HasPlaces Nothing room = Unit
HasPlaces (Append put) room = 1 ≤ room
HasPlaces (Replace position put) room = Unit
HasPlaces (Remove position) room = Unit

-- the edit can be made in a list of entry sectors
pub record CanEditSectors (edit : Edit) (sectors : Vec ℕ) : Type 0 where
  pub within : IsWithin edit (length sectors.items)
  pub memory : HasMemory edit sectors

-- the edit can be made in a list of entries, and in the order of their names, which has room for `room`
-- more positions
pub record CanEdit (edit : Edit) (entries : Vec PlacedEntry) (room : ℕ) : Type 0 where
  pub within : IsWithin edit (length entries.items)
  pub spelt : IsSpelt edit
  pub names : KeepsNames edit entries.items
  pub memory : HasMemory edit entries
  pub places : HasPlaces edit room

-- the sectors of the replaced or removed entry, and of its bytes
abbrev pub gone_entry : Edit → List PlacedEntry → List ℕ
gone_entry Nothing entries = []
gone_entry (Append put) entries = []
gone_entry (Replace position put) entries = sectors_of (slice_index_or entries position no_entry)
gone_entry (Remove position) entries = sectors_of (slice_index_or entries position no_entry)

-- the sectors of the old catalogues if the edit changes the list, and otherwise none
abbrev pub gone_catalogues : Edit → Root → List ℕ
gone_catalogues Nothing root = []
gone_catalogues (Append put) root = catalogues_of root
gone_catalogues (Replace position put) root = catalogues_of root
gone_catalogues (Remove position) root = catalogues_of root

-- all sectors that the state no longer uses after the edit
abbrev pub gone_sectors : Edit → Root → List PlacedEntry → List ℕ
gone_sectors edit root entries = gone_entry edit entries ++ gone_catalogues edit root

-- The sectors that the state no longer uses are unused now, except those of held byte strings.
abbrev pub ReleasesReplaced : Edit → Root → List PlacedEntry → (held left : List HeldRow) (old new : List Bool) → Type 0
ReleasesReplaced Nothing root entries held left old new = (left ≡ held) × IsReleased old new []
ReleasesReplaced (Append put) root entries held left old new = (left ≡ held) × IsReleased old new (catalogues_of root)
ReleasesReplaced (Replace position put) root entries held left old new = IsGivenUp held left old new (slice_index_or entries position no_entry) (catalogues_of root)
ReleasesReplaced (Remove position) root entries held left old new = IsGivenUp held left old new (slice_index_or entries position no_entry) (catalogues_of root)
