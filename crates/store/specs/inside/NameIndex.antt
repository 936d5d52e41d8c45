-- The order of the entries' names, which is used to find an entry by its name.
use Rattle.std.specs.Prelude.{◌≡◌, ℕ, ◌+◌, ◌<◌, ◌≤◌, List, length, slice_index, false, nat_lt, ◌-◌, if◌then◌else◌}
use Rattle.std.specs.List.{range_with_len}
use Rattle.std.specs.List.Sorted.{IsPermutation, IsSortedBy}
use Rattle.std.specs.Cmp.Lexicographic.{slice_cmp}
use Rattle.std.specs.Ordering.{nat_cmp, is_lt}
use Rattle.std.specs.declared.cmp.Ordering.{Ordering}
use Rattle.std.specs.declared.cmp.Ordering.TheVariants.{Less}
use Rattle.store.specs.declared.placed_entry.PlacedEntry.{PlacedEntry}
use Rattle.store.specs.NameOrder.{entry_names, name_at, name_order, IsOrderOf}

-- the data of an index: positions, and the number of further positions that fit in its memory
pub record Index : Type 0 where
  pub positions : List ℕ
  pub room : ℕ

-- the order of the name at `position` and the name `name`
abbrev pub order_to : List (List ℕ) → List ℕ → ℕ → Ordering
order_to names name position = slice_cmp nat_cmp (name_at names position) name

-- The index has the positions of these entries in the order of their names.
abbrev pub IsIndex : List PlacedEntry → Index → Type 0
IsIndex entries index = IsOrderOf (entry_names entries) index.positions

-- each position of these names occurs once, and no name is less than the one before it
pub record IsSortedOrder (names : List (List ℕ)) (positions : List ℕ) : Type 0 where
  pub moved : IsPermutation (range_with_len 0 (length names)) positions
  pub sorted : IsSortedBy (λ a b. is_lt (name_order names a b)) positions

-- in the order of the positions, each name is less than the next one
pub record Rises (names : List (List ℕ)) (positions : List ℕ) : Type 0 where
  pub rise : (k : ℕ) → k + 1 < length positions → name_order names (slice_index positions k) (slice_index positions (k + 1)) ≡ Less

-- `place` is the number of names that come before `name`, in the order of the positions
pub record IsPlace (names : List (List ℕ)) (positions name : List ℕ) (place : ℕ) : Type 0 where
  pub within : place ≤ length positions
  pub before : (k : ℕ) → k < place → order_to names name (slice_index positions k) ≡ Less
  pub behind : (k : ℕ) → place ≤ k → k < length positions → is_lt (order_to names name (slice_index positions k)) ≡ false

-- the new value of `position` after the entry at `gone` was removed: the entries after `gone` move
-- up by one position
abbrev pub closed_up : ℕ → ℕ → ℕ
closed_up gone position = if nat_lt gone position then position - 1 else position
