use Rattle.std.proofs.Common.{◌≡◌, ◌<◌, All, length, map, take}
use Rattle.store.specs.Stands.{names_at}
use Rattle.states.specs.State.{State}
use Rattle.registry.specs.inside.Named.{AreNamed}
use Rattle.registry.proofs.tests.positions_of.Given as goal

abbrev pub invariant-loop-name : goal.invariant-loop-name
invariant-loop-name g l = record {
  count : length l.positions.items ≡ l.name-index;
  named : AreNamed (g.L.Listed.entries l.fn.list) l.positions.items (map (λ n. n.now) (take l.name-index l.names));
  within : (s : State) → g.L.Listed.is_at l.fn.list s → All (λ p. p < length s.libraries) l.positions.items;
  state : (s : State) → g.L.Listed.is_at l.fn.list s → names_at s.libraries l.positions.items ≡ map (λ n. n.now) (take l.name-index l.names);
}
