-- Names in a row (own).
use Rattle.std.specs.Prelude.{◌≡◌, ◌≢◌, ℕ, List, [], ◌∷◌, ◌++◌, All}
use Rattle.std.specs.List.{flat_map}

-- The bytes are these names in this order, each followed by a byte 0. No name has a byte 0.
pub record AreNames (names : List (List ℕ)) (bytes : List ℕ) : Type 0 where
  pub row : bytes ≡ flat_map (λ name. name ++ 0 ∷ []) names
  pub apart : All (λ name. All (λ byte. byte ≢ 0) name) names
