-- Walks through the chains of a hash table (gABI chapter 5, "Hash Table").
use Rattle.std.specs.Prelude.{ℕ, List, ◌≡◌, ◌≢◌, ◌≤◌, slice_index}
use Rattle.std.specs.Fn.{iterate}

-- the index that the walk from index `from` reaches after `n` chain steps
unfoldable pub walk : List ℕ → ℕ → ℕ → ℕ
walk chains from n = iterate (slice_index chains) n from

-- the walk from `from` reaches 0 after some number of chain steps
pub record Ends (chains : List ℕ) (from : ℕ) : Type 0 where
  pub steps : ℕ
  pub arrives : walk chains from steps ≡ 0

-- the walk from `from` reaches `index` after some number of steps; neither `index` nor any index before it on the walk
-- is 0
pub record Meets (chains : List ℕ) (from index : ℕ) : Type 0 where
  pub steps : ℕ
  pub arrives : walk chains from steps ≡ index
  pub before : (k : ℕ) → k ≤ steps → walk chains from k ≢ 0
