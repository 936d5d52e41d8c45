use Rattle.std.proofs.Common.{◌≡◌, ◌≤◌, ◌+◌, ◌++◌, length, map, take}
use Rattle.std.specs.Vec.{vec_len, vec_capacity}
use Rattle.hash_check.specs.inside.Numbered.{behind}
use Rattle.hash_check.proofs.numbered.add_endings.Given as goal

abbrev pub invariant-loop-ending : goal.invariant-loop-ending
invariant-loop-ending l = record {
  items : l.all.items ≡ l.fn.all.items ++ map (behind l.before) (take l.ending-index l.endings);
  len : vec_len l.all ≡ vec_len l.fn.all + l.ending-index;
  room : vec_len l.fn.all + length l.endings ≤ vec_capacity l.all;
}
