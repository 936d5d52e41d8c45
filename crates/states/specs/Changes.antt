-- The states to which changes lead (own).
use Rattle.std.specs.Prelude.{ℕ, ◌+◌, List, [], ◌∷◌, ◌++◌, if◌then◌else◌, bytes_eq}
use Rattle.states.specs.State.{Library, State}

-- the libraries, but the library with this name has these bytes
abbrev pub libraries_with : (name bytes : List ℕ) → List Library → List Library
libraries_with name bytes [] = []
libraries_with name bytes (l ∷ ls) = if bytes_eq name l.name then record { name = name; bytes = bytes } ∷ ls else l ∷ libraries_with name bytes ls

-- the libraries except the one with this name; the libraries after it move up by one position
abbrev pub libraries_without : List ℕ → List Library → List Library
libraries_without name [] = []
libraries_without name (l ∷ ls) = if bytes_eq name l.name then ls else l ∷ libraries_without name ls

-- the next state, with these libraries and preloads
abbrev pub next : State → List Library → List (List ℕ) → State
next s libraries preloads = record { generation = s.generation + 1; libraries = libraries; preloads = preloads }

-- the next state, with one more library after the others
abbrev pub with_new : (name bytes : List ℕ) → State → State
with_new name bytes s = next s (s.libraries ++ record { name = name; bytes = bytes } ∷ []) s.preloads

-- the next state, in which the library with this name has these bytes
abbrev pub with_bytes : (name bytes : List ℕ) → State → State
with_bytes name bytes s = next s (libraries_with name bytes s.libraries) s.preloads

-- the next state, without the library with this name; the preloads stay the same
abbrev pub without : List ℕ → State → State
without name s = next s (libraries_without name s.libraries) s.preloads

-- the next state, with these names as preloads
abbrev pub with_preloads : List (List ℕ) → State → State
with_preloads names s = next s s.libraries names
