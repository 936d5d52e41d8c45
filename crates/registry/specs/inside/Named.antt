-- The byte strings of a store, found by the names in a command.
use Rattle.std.specs.Prelude.{◌≡◌, ◌<◌, ℕ, List, length, map, slice_index_or, All}
use Rattle.store.specs.declared.placed_entry.PlacedEntry.{PlacedEntry}
use Rattle.store.specs.Stands.{name_of}
use Rattle.states.specs.State.{State, names_of}
use Rattle.requests.specs.Table.{Table}

-- the name of the entry
abbrev pub placed_name : PlacedEntry → List ℕ
placed_name placed = name_of placed.entry

-- the entries at the positions `positions` have the names `names`, in the same order
pub record AreNamed (entries : List PlacedEntry) (positions : List ℕ) (names : List (List ℕ)) : Type 0 where
  pub inside : All (λ position. position < length entries) positions
  pub each : (d : PlacedEntry) → map (λ position. name_of (slice_index_or entries position d).entry) positions ≡ names

-- the table that a command's tests read has the names and the preloads of state s
abbrev pub IsTableOf : Table → State → Type 0
IsTableOf t s = (t.names ≡ names_of s.libraries) × (t.preloads ≡ s.preloads)
