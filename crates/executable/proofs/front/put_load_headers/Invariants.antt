use Rattle.std.proofs.Common.{◌≡◌, ◌≤◌, ◌+◌, ◌*◌, ◌++◌, drop}
use Rattle.std.specs.Prelude.{◌^◌}
use Rattle.std.specs.Vec.{vec_len, vec_capacity}
use Rattle.executable.specs.File.{load_headers}
use Rattle.executable.proofs.front.put_load_headers.Given as goal

abbrev pub invariant-loop-piece : goal.invariant-loop-piece
invariant-loop-piece l = record {
  rest : l.table.items ++ load_headers l.offset (drop l.piece-index l.pieces) ≡ l.fn.table.items ++ load_headers l.fn.offset l.pieces;
  len : vec_len l.table ≡ vec_len l.fn.table + l.piece-index;
  capacity : vec_capacity l.table ≡ vec_capacity l.fn.table;
  bound : l.offset ≤ 2 ^ 20 + 2 ^ 48 * l.piece-index;
}
