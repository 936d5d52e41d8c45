-- A table in which a name is found by its key. A cell has the number of a name, counted from 1, or
-- 0 if it is empty. To understand the contracts of public calls, you don't need these definitions.
use Rattle.std.specs.Prelude.{ℕ, List, ◌≡◌, ◌≢◌, ◌<◌, ◌≤◌, ◌+◌, ◌-◌, ◌*◌, ◌/◌, ◌%◌, ◌^◌, length, slice_index}
use Rattle.hash_check.specs.inside.Key.{key_of}
use Rattle.hash_check.specs.Numbers.{nth_text}

-- the home of a key in a table of `size` cells: the first cell in which a name with this key may be stored
unfoldable pub home : ℕ → ℕ → ℕ
home size key = (key * 0x9e3779b97f4a7c15) % 2 ^ 64 / 2 ^ 32 * (size - 128) / 2 ^ 32

-- the cell has the number of a name that differs from `name`
pub record IsOther (text : ℕ → List ℕ) (name : List ℕ) (cell : ℕ) : Type 0 where
  pub taken : cell ≢ 0
  pub differs : text (cell - 1) ≢ name

-- the cells from number `from` up to, but not including, number `at` have names that differ from `name`
abbrev pub HoldOthers : (ℕ → List ℕ) → List ℕ → List ℕ → ℕ → ℕ → Type 0
HoldOthers text cells name from at = (k : ℕ) → from ≤ k → k < at → IsOther text name (slice_index cells k)

-- a search for a name, from cell number `from`, ends at the empty cell number `at`
pub record IsFree (text : ℕ → List ℕ) (cells name : List ℕ) (from at : ℕ) : Type 0 where
  pub behind : from ≤ at
  pub near : at < from + 128
  pub within : at < length cells
  pub empty : slice_index cells at ≡ 0
  pub others : HoldOthers text cells name from at

-- a search for a name, from cell number `from`, ends at cell number `at`, which has the name
pub record Reaches (text : ℕ → List ℕ) (cells name : List ℕ) (from at : ℕ) : Type 0 where
  pub behind : from ≤ at
  pub near : at < from + 128
  pub taken : slice_index cells at ≢ 0
  pub same : text (slice_index cells at - 1) ≡ name
  pub others : HoldOthers text cells name from at

-- the home of name number `k`
abbrev pub home_of : List (List ℕ) → List ℕ → ℕ → ℕ
home_of names cells k = home (length cells) (key_of (nth_text names k))

-- the search for name number `k` ends at a cell with the number `told`
pub record Stands (names : List (List ℕ)) (cells : List ℕ) (k told : ℕ) : Type 0 where
  pub place : ℕ
  pub is : Reaches (nth_text names) cells (nth_text names k) (home_of names cells k) place
  pub cell : slice_index cells place ≡ told

-- in the new table, the search for name number `number` ends at a cell with the number `told`, and all
-- names of the old table are found as before
pub record IsPut (names : List (List ℕ)) (old new : List ℕ) (number told : ℕ) : Type 0 where
  pub few : (k : ℕ) → slice_index new k ≤ number + 1
  pub stands : Stands names new number told
  pub kept : (k told : ℕ) → Stands names old k told → Stands names new k told
