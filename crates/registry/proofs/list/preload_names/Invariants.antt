use Rattle.std.proofs.Common.{◌≡◌, ◌≤◌, length, take}
use Rattle.std.specs.Vec.{vec_len, vec_capacity}
use Rattle.store.specs.Stands.{names_at}
use Rattle.states.specs.State.{State}
use Rattle.registry.proofs.list.preload_names.Given as goal

abbrev pub invariant-loop-position : goal.invariant-loop-position
invariant-loop-position g l = record {
  items : (s : State) → g.L.Listed.is_at l.fn.list s → l.names.items ≡ names_at s.libraries (take l.position-index l.positions);
  len : vec_len l.names ≡ l.position-index;
  room : length l.positions ≤ vec_capacity l.names;
}
