-- Names that are tails of strings, read from their ends. The code numbers names in this way if they
-- share bytes. To understand the contracts of public calls, you don't need these definitions.
use Rattle.std.specs.Prelude.{ℕ, List, ◌≡◌, ◌≢◌, ◌<◌, ◌≤◌, ◌-◌, false, length, take, reverse, slice_index}
use Rattle.std.specs.Cmp.Lexicographic.{slice_cmp}
use Rattle.std.specs.Ordering.{nat_cmp, is_lt}
use Rattle.std.specs.List.{All, Any}
use Rattle.std.specs.List.Sorted.{IsSortedBy}
use Rattle.hash_check.specs.Numbers.{nth_text}
use Rattle.hash_check.specs.declared.endings.Ending.{Ending}

-- the bytes of name number `k`, the last byte first
unfoldable pub back : List (List ℕ) → ℕ → List ℕ
back names k = reverse (nth_text names k)

-- the bytes of the string of an ending, the last byte first
abbrev pub string_back : Ending → List ℕ
string_back e = reverse e.string.now

-- name number `k` is one of the names of the ending
abbrev pub IsIn : ℕ → Ending → Type 0
IsIn k e = (e.first ≤ k) × (k < e.past)

-- the names of an ending are tails of its string
pub record IsEnding (names : List (List ℕ)) (e : Ending) : Type 0 where
  pub order : e.first ≤ e.past
  pub within : e.past ≤ length names
  pub tails : (k : ℕ) → IsIn k e → take (length (back names k)) (string_back e) ≡ back names k

-- each name is in one of the endings, and the names of each ending are tails of its string
pub record AreEndings (names : List (List ℕ)) (endings : List Ending) : Type 0 where
  pub each : All (IsEnding names) endings
  pub all : (k : ℕ) → k < length names → Any (IsIn k) endings

-- each name is in one of the endings, and the endings are sorted by their strings, read from the last
-- byte
pub record AreSorted (names : List (List ℕ)) (endings : List Ending) : Type 0 where
  pub are : AreEndings names endings
  pub sorted : IsSortedBy (λ a b. is_lt (slice_cmp nat_cmp (string_back a) (string_back b))) endings

-- all numbers are 0, so no name has a number yet
abbrev pub AreNone : List ℕ → Type 0
AreNone numbers = (k : ℕ) → slice_index numbers k ≡ 0

-- The names with a number other than 0 have been numbered. Compared from the last byte backwards,
-- no numbered name is greater than `last`. For each numbered name that is a tail of `last`, `marks`
-- has the number at the index that is the name's length.
pub record AreHeld (names : List (List ℕ)) (last marks numbers : List ℕ) : Type 0 where
  pub size : length numbers ≡ length names
  pub short : (n : ℕ) → slice_index marks n ≢ 0 → n ≤ length last
  pub there : (n : ℕ) → slice_index marks n ≤ length names
  pub marked : (n : ℕ) → slice_index marks n ≢ 0 → back names (slice_index marks n - 1) ≡ take n last
  pub below : (k : ℕ) → slice_index numbers k ≢ 0 → is_lt (slice_cmp nat_cmp last (back names k)) ≡ false
  pub held : (k : ℕ) → slice_index numbers k ≢ 0 → take (length (back names k)) last ≡ back names k → slice_index marks (length (back names k)) ≡ slice_index numbers k
  pub within : (k : ℕ) → slice_index numbers k ≤ length names
  pub same : (k : ℕ) → slice_index numbers k ≢ 0 → back names (slice_index numbers k - 1) ≡ back names k
  pub one : (j k : ℕ) → slice_index numbers j ≢ 0 → slice_index numbers k ≢ 0 → back names j ≡ back names k → slice_index numbers j ≡ slice_index numbers k
