-- A listing in two buffers of a caller in C (own).
use Rattle.std.specs.Prelude.{◌≡◌, ◌⊎◌, ◌<◌, ◌+◌, ◌-◌, ◌^◌, ℕ, List, [], ◌∷◌, ◌++◌, length, map, take, min}
use Rattle.std.specs.List.{flat_map}
use Rattle.states.specs.State.{State}
use Rattle.requests.specs.Table.{Listed, listed}
use Rattle.c_answers.specs.declared.answer.Answer.{Answer}
use Rattle.c_answers.specs.declared.entry.EntryPlace.{EntryPlace}
use Rattle.c_answers.specs.Numbers.{done, no_room}
use Rattle.c_answers.specs.Unsaid.{IsSilent, IsUnbound}
use Rattle.byte_registry.specs.Bytes.{HoldStore}

-- an entry of a listing: the name of a library and the length of its file, or the name of a preload and
-- 0
abbrev pub Entry : Type 0
Entry = List ℕ × ℕ

-- the preloads as entries; their lengths are 0
abbrev pub preload_entries : List (List ℕ) → List Entry
preload_entries names = map (λ name. (name, 0)) names

-- the entries of a listing: the libraries, followed by the preloads
abbrev pub entries_of : Listed → List Entry
entries_of l = l.libraries ++ preload_entries l.preloads

-- the names of entries in a row, each followed by a byte 0
abbrev pub names_in_row : List Entry → List ℕ
names_in_row entries = flat_map (λ e. e.0 ++ 0 ∷ []) entries

-- the place of an entry: the offset `from` and the length of its name, and the length of its file
abbrev pub place_of : ℕ → Entry → EntryPlace
place_of from e = record { name = from; name_length = min (length e.0) (2 ^ 32 - 1); file_length = e.1 }

-- the places of the entries, if the name of the first entry is at offset `from`
abbrev pub places_of : ℕ → List Entry → List EntryPlace
places_of from [] = []
places_of from (e ∷ entries) = place_of from e ∷ places_of (from + length e.0 + 1) entries

-- The buffers have these entries and their names. The number of bytes of the names is reported.
pub record AreListed (all : List Entry) (entries : List EntryPlace) (row : List ℕ) (told_size : ℕ) : Type 0 where
  pub places : take (length all) entries ≡ places_of 0 all
  pub size : told_size ≡ length (names_in_row all)
  pub names : take told_size row ≡ names_in_row all

-- A buffer is too small for the entries or the names. The number of bytes of the names is reported.
pub record LackSpace (all : List Entry) (entries : List EntryPlace) (row : List ℕ) (told_size : ℕ) : Type 0 where
  pub small : (length entries < length all) ⊎ (length row < length (names_in_row all))
  pub size : told_size ≡ min (length (names_in_row all)) (2 ^ 64 - 1)

-- the numbers of libraries and of preloads are reported
pub record Counts (l : Listed) (told_libraries told_preloads : ℕ) : Type 0 where
  pub libraries : told_libraries ≡ length l.libraries
  pub preloads : told_preloads ≡ length l.preloads

-- the buffers have the listing, or a buffer is too small; no text has been reported yet
abbrev pub IsListingGiven : Listed → List EntryPlace → List ℕ → Answer → ℕ → Type 0
IsListingGiven l entries names answer status = IsSilent answer × IsUnbound answer × Counts l answer.count answer.preloads
    × ((status ≡ done) × AreListed (entries_of l) entries names answer.bytes
    ⊎ (status ≡ no_room) × LackSpace (entries_of l) entries names answer.bytes)

-- The buffers have the listing of the state that the bytes hold, and the answer has the state's
-- generation.
pub record IsListingOf (disk : List ℕ) (entries : List EntryPlace) (names : List ℕ) (answer : Answer) : Type 0 where
  pub state : State
  pub holds : HoldStore disk state
  pub only : (other : State) → HoldStore disk other → other ≡ state
  pub counts : Counts (listed state) answer.count answer.preloads
  pub given : AreListed (entries_of (listed state)) entries names answer.bytes
  pub generation : answer.generation ≡ state.generation
