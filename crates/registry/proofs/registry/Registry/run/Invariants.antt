use Rattle.std.proofs.Common.{◌≡◌, ◌≤◌, map, take, length, vec_len, vec_capacity}
use Rattle.requests.specs.Request.{request_of}
use Rattle.states.specs.State.{State}
use Rattle.registry.specs.Opened.{IsAt}
use Rattle.registry.specs.Acknowledged.{commanded}
use Rattle.registry.specs.Answered.{AreAnswered}
use Rattle.registry.proofs.RanSoFar.{RunsSoFar}
use Rattle.registry.proofs.registry.Registry.run.Given as goal

abbrev pub invariant-loop-command : goal.invariant-loop-command
invariant-loop-command g l = record {
  count : vec_len l.replies ≡ l.command-index;
  told : length l.replies.items ≡ l.command-index;
  within : l.command-index ≤ length l.commands;
  room : length l.commands ≤ vec_capacity l.replies;
  runs : (s : State) → IsAt g.D.Disk.facts l.fn.self s → RunsSoFar g.D.Disk.facts l.fn.self l.self s (commanded (map request_of (take l.command-index l.commands)) l.replies.items);
  answered : AreAnswered g.D.Disk.facts l.fn.self l.self (map request_of (take l.command-index l.commands)) l.replies.items;
}
