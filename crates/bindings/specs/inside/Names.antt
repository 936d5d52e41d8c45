-- The names of libraries, as keys of a table. To understand the contracts of public calls, you
-- don't need this definition.
use Rattle.std.specs.Prelude.{ℕ, ◌≡◌, List}
use Rattle.std.specs.List.{list_any}
use Rattle.std.specs.Str.{bytes_eq}

-- a list of bytes is among `keys` if and only if it is among `names`
abbrev pub AreNames : List (List ℕ) → List (List ℕ) → Type 0
AreNames names keys = (name : List ℕ) → list_any (bytes_eq name) keys ≡ list_any (bytes_eq name) names
