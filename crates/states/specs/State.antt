-- The state of a registry, which a disk holds (own).
use Rattle.std.specs.Prelude.{ℕ, List, [], map, Bool, bytes_eq}
use Rattle.std.specs.List.{list_any}

-- a library: its name, and the bytes of its file
pub record Library : Type 0 where
  pub name : List ℕ
  pub bytes : List ℕ

-- a state: the libraries with their names and bytes, and the preloads among them
pub record State : Type 0 where
  -- the number of changes since the disk was formatted
  pub generation : ℕ
  -- the libraries in the order in which they were installed
  pub libraries : List Library
  -- the names of the preloads, in their order
  pub preloads : List (List ℕ)

-- the state before any change, which `format` makes
abbrev pub empty_state : State
empty_state = record { generation = 0; libraries = []; preloads = [] }

-- the names of libraries
abbrev pub names_of : List Library → List (List ℕ)
names_of libraries = map (λ l. l.name) libraries

-- `name` is one of the names
abbrev pub has_name : List (List ℕ) → List ℕ → Bool
has_name names name = list_any (bytes_eq name) names
