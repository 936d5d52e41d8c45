-- A registry between two commands (own).
use Rattle.std.specs.Prelude.{ℕ, Bool, ◌-◌}
use Rattle.states.specs.State.{State, names_of}
use Rattle.states.specs.Cost.{free}
use Rattle.requests.specs.Table.{Table}

-- the value of a registry in contracts: its state, and the known facts of its disk
pub record Phase : Type 0 where
  pub sectors : ℕ
  -- the number of sectors in use that don't belong to the state: those of versions that only
  -- binders hold
  pub lone : ℕ
  -- the number of sectors in the longest runs of unused sectors, with at most as many runs as a file may have extents
  pub longest : ℕ
  -- the number of calls of the disk that have failed
  pub failures : ℕ
  -- whether a write or a sync has failed; if so, the contents of the disk are unknown until it is
  -- opened again
  pub failed : Bool
  pub state : State

-- the table of a registry: the facts that the tests of a command read
abbrev pub table_of : Phase → Table
table_of p = record {
  generation = p.state.generation;
  names = names_of p.state.libraries;
  preloads = p.state.preloads;
  free = free (p.sectors - p.lone) p.state;
  longest = p.longest;
}
