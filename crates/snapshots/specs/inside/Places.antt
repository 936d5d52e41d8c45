-- The positions in a snapshot are valid. A reader needn't check this definition.
use Rattle.std.specs.Prelude.{ℕ, ◌<◌, ◌≤◌, List, All, length, nat_eq}
use Rattle.std.specs.List.{IsDistinct}

-- The number of handles is at most the maximum number of byte strings of a store. Each preload's position is that of a
-- handle, and no position occurs twice.
pub record AreInside (handles preloads : List ℕ) : Type 0 where
  pub few : length handles ≤ 2048
  pub inside : All (λ p. p < length handles) preloads
  pub once : IsDistinct nat_eq preloads
