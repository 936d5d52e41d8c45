-- The flags of the queue of places. To understand the contracts of public calls, you don't need
-- this definition.
use Rattle.std.specs.Prelude.{ℕ, ◌≡◌, ◌<◌, List, Bool, false, length, get_or}
use Rattle.scope.specs.Levels.{is_among}
use Rattle.scope.specs.Queue.{AreApart}

-- for each place `p` below the limit, flag number `p` is true if and only if place `p` is in the queue
pub record AreTold (flags : List Bool) (places : List ℕ) : Type 0 where
  pub told : (p : ℕ) → p < length flags → get_or flags p false ≡ is_among places p
  pub apart : AreApart (length flags) places
