-- The listing of a state, and the facts that the tests of a command read. Neither of them contains
-- the bytes of the libraries' files.
use Rattle.std.specs.Prelude.{ℕ, List, map, length}
use Rattle.states.specs.State.{Library, State}

-- the facts of a library in a listing: its name, and the length of its file in bytes
abbrev pub entry_of : Library → List ℕ × ℕ
entry_of l = (l.name, length l.bytes)

-- a listing: the libraries, and the names of the preloads, each in the order of the state
pub record Listed : Type 0 where
  pub libraries : List (List ℕ × ℕ)
  pub preloads : List (List ℕ)

-- the listing of a state
abbrev pub listed : State → Listed
listed s = record { libraries = map entry_of s.libraries; preloads = s.preloads }

-- the facts that the tests of a command read
pub record Table : Type 0 where
  pub generation : ℕ
  -- the names of the libraries
  pub names : List (List ℕ)
  pub preloads : List (List ℕ)
  -- the number of free sectors, not counting those that the catalogues of the next change need
  pub free : ℕ
  -- the number of sectors in the longest runs of unused sectors, with at most as many runs as a file may have extents
  pub longest : ℕ
