use Rattle.std.proofs.Common.{◌≡◌, ◌≤◌, take, length, vec_len, vec_capacity}
use Rattle.requests.specs.Runs.{Run}
use Rattle.states.specs.State.{State}
use Rattle.registry.specs.Rounds.{AlwaysStands, RoundLeads, standing}
use Rattle.registry.proofs.rounds.run_rounds.Given as goal

abbrev pub invariant-loop-round : goal.invariant-loop-round
invariant-loop-round l = record {
  same : l.round-items ≡ l.fn.rounds.items;
  count : vec_len l.told ≡ l.round-index;
  room : length l.round-items ≤ vec_capacity l.told;
  runs : (s : State) → AlwaysStands l.fn.disk s → (s' : State)
      × Run RoundLeads (standing l.fn.disk s) (take l.round-index l.fn.rounds.items) l.told.items (standing l.disk s') × AlwaysStands l.disk s';
}
