-- Numbers that distinguish names (own).
use Rattle.std.specs.Prelude.{ℕ, List, [], ◌≡◌, ◌<◌, ◌≤◌, ◌+◌, ◌-◌, length, slice_index, slice_index_or}

-- name number `k`
abbrev pub nth_text : List (List ℕ) → ℕ → List ℕ
nth_text names k = slice_index_or names k []

-- two names have the same number if and only if they are equal; the number of a name is the position, counted from 1,
-- of an equal name
pub record AreNumbers (names : List (List ℕ)) (numbers : List ℕ) : Type 0 where
  pub size : length numbers ≡ length names
  pub some : (k : ℕ) → k < length names → 1 ≤ slice_index numbers k
  pub within : (k : ℕ) → k < length names → slice_index numbers k ≤ length names
  pub same : (k : ℕ) → k < length names → nth_text names (slice_index numbers k - 1) ≡ nth_text names k
  pub one : (j k : ℕ) → j < length names → k < length names → nth_text names j ≡ nth_text names k → slice_index numbers j ≡ slice_index numbers k

-- the number of each name is its own position, counted from 1
pub record AreOwn (numbers : List ℕ) : Type 0 where
  pub own : (k : ℕ) → k < length numbers → slice_index numbers k ≡ k + 1

-- each name is shorter than the name before it
pub record Fall (names : List (List ℕ)) : Type 0 where
  pub fall : (k : ℕ) → 1 ≤ k → k < length names → length (nth_text names k) < length (nth_text names (k - 1))
