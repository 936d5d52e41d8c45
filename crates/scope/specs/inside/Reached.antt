-- The processed part of a queue. To understand the contracts of public calls, you don't need this
-- definition.
use Rattle.std.specs.Prelude.{◌≡◌, ◌<◌, ℕ, ◌+◌, List, ◌++◌, length, drop}
use Rattle.std.specs.List.{flat_map, concat}
use Rattle.scope.specs.Levels.{levels_after, joined_levels}
use Rattle.scope.specs.inside.Growing.{grown}

-- The first `i` objects of the queue have been processed. `earlier` has all levels up to the
-- current one. Of the current level, the objects `walked` have been processed, and the objects
-- `left` haven't.
pub record Reached (needs : ℕ → List ℕ) (n : ℕ) (first places : List ℕ) (i : ℕ) : Type 0 where
  pub earlier : List ℕ
  pub walked : List ℕ
  pub left : List ℕ
  pub turns : ℕ
  pub whole : joined_levels needs n first ≡ earlier ++ concat (levels_after needs turns earlier (walked ++ left))
  pub is : places ≡ grown earlier (flat_map needs walked)
  pub from : drop i earlier ≡ left
  pub index : i + length left ≡ length earlier
  pub room : n < length earlier + turns
