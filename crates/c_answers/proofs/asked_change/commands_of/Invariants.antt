use Rattle.std.proofs.Common.{◌≡◌, ◌≤◌, length, map, take}
use Rattle.std.specs.Vec.{vec_len, vec_capacity}
use Rattle.requests.specs.Request.{request_of}
use Rattle.c_answers.specs.Changes.{request_asked}
use Rattle.c_answers.proofs.asked_change.commands_of.Given as goal

abbrev pub invariant-loop-change : goal.invariant-loop-change
invariant-loop-change l = record {
  same : map request_of l.commands.items ≡ map request_asked (take l.change-index l.asked);
  len : vec_len l.commands ≡ l.change-index;
  room : length l.asked ≤ vec_capacity l.commands;
}
