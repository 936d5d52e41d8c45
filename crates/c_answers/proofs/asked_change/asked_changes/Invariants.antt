use Rattle.std.proofs.Common.{◌≡◌, ◌≤◌, length, map, take}
use Rattle.std.specs.Vec.{vec_len, vec_capacity}
use Rattle.c_answers.specs.Changes.{Mean, request_asked}
use Rattle.c_answers.proofs.asked_change.asked_changes.Given as goal

abbrev pub invariant-loop-change : goal.invariant-loop-change
invariant-loop-change l = record {
  mean : Mean l.bytes (take l.change-index l.changes) (map request_asked l.all.items);
  len : vec_len l.all ≡ l.change-index;
  room : length l.changes ≤ vec_capacity l.all;
}
