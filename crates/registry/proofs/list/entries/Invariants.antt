use Rattle.std.proofs.Common.{◌≡◌, ◌≤◌, map, take}
use Rattle.std.specs.Vec.{vec_len, vec_capacity}
use Rattle.states.specs.State.{State}
use Rattle.requests.specs.Table.{entry_of}
use Rattle.registry.proofs.list.entries.Given as goal

abbrev pub invariant-loop-position : goal.invariant-loop-position
invariant-loop-position g l = record {
  items : (s : State) → g.L.Listed.is_at l.fn.list s → l.entries.items ≡ map entry_of (take l.position s.libraries);
  len : vec_len l.entries ≡ l.position;
  room : l.position-end ≤ vec_capacity l.entries;
}
