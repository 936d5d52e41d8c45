-- The properties of the state of every registry (own).
use Rattle.std.specs.Prelude.{◌≡◌, ◌≢◌, ◌≤◌, length, All, AllPairs, true}
use Rattle.states.specs.Limits.{most_libraries, most_preloads}
use Rattle.states.specs.State.{State, names_of, has_name}
use Rattle.requests.specs.Library.{IsLibrary}

pub record IsState (s : State) : Type 0 where
  -- all tests accept each library's file, each library has the SONAME of its file as its name, and
  -- no two libraries have the same name
  pub libraries : All IsLibrary s.libraries
  pub own_names : AllPairs (λ a b. a.name ≢ b.name) s.libraries
  pub few : length s.libraries ≤ most_libraries
  -- the preloads are installed, and no preload occurs twice
  pub installed : All (λ name. has_name (names_of s.libraries) name ≡ true) s.preloads
  pub once : AllPairs (λ a b. a ≢ b) s.preloads
  pub few_preloads : length s.preloads ≤ most_preloads
