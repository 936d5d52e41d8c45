-- The queue that is used to compute the levels (own).
use Rattle.std.specs.Prelude.{ℕ, ◌<◌, List, [], ◌∷◌, ◌++◌, if◌then◌else◌, nat_eq}
use Rattle.std.specs.List.{All, IsDistinct}
use Rattle.scope.specs.Levels.{is_among}

-- the places of a queue, in the order in which they were added, and a limit that is above all of them
pub record Queue : Type 0 where
  pub limit : ℕ
  pub places : List ℕ

-- the places are below the limit, and no place occurs twice
pub record AreApart (limit : ℕ) (places : List ℕ) : Type 0 where
  pub below : All (λ p. p < limit) places
  pub distinct : IsDistinct nat_eq places

-- the places `ps`, with `p` appended unless `p` is one of them
abbrev pub grown_by : List ℕ → ℕ → List ℕ
grown_by ps p = if is_among ps p then ps else ps ++ p ∷ []
