-- The order of the names of byte strings.
use Rattle.std.specs.Prelude.{◌≡◌, ℕ, ◌<◌, List, [], length, map, slice_index_or, All, AllPairs}
use Rattle.std.specs.List.{Contains}
use Rattle.std.specs.Cmp.Lexicographic.{slice_cmp}
use Rattle.std.specs.Ordering.{nat_cmp}
use Rattle.std.specs.declared.cmp.Ordering.{Ordering}
use Rattle.std.specs.declared.cmp.Ordering.TheVariants.{Less}
use Rattle.store.specs.declared.placed_entry.PlacedEntry.{PlacedEntry}
use Rattle.store.specs.Stands.{name_of}

-- the names of entries
abbrev pub entry_names : List PlacedEntry → List (List ℕ)
entry_names entries = map (λ placed. name_of placed.entry) entries

-- the name at `position`, or the empty name if `names` has no such position
abbrev pub name_at : List (List ℕ) → ℕ → List ℕ
name_at names position = slice_index_or names position []

-- the order of the names at the positions `a` and `b`, byte by byte; a name is less than the longer
-- names that begin with it
abbrev pub name_order : List (List ℕ) → ℕ → ℕ → Ordering
name_order names a b = slice_cmp nat_cmp (name_at names a) (name_at names b)

-- `positions` contains each position of `names` once, in the order of the names. No name occurs
-- twice.
pub record IsOrderOf (names : List (List ℕ)) (positions : List ℕ) : Type 0 where
  pub size : length positions ≡ length names
  pub within : All (λ position. position < length names) positions
  pub every : (position : ℕ) → position < length names → Contains positions position
  pub rise : AllPairs (λ a b. name_order names a b ≡ Less) positions
