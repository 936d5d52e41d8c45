use Rattle.std.proofs.Common.{◌≡◌, ◌<◌, ◌≤◌, ℕ, length}
use Rattle.std.specs.Prelude.{slice_index}
use Rattle.std.specs.Vec.{vec_capacity}
use Rattle.hash_check.specs.inside.NameTable.{Stands}
use Rattle.hash_check.proofs.name_table.numbers_in_table.Given as goal

abbrev pub invariant-loop-number : goal.invariant-loop-number
invariant-loop-number l = record {
  size : 128 < length l.cells.items;
  few : (k : ℕ) → slice_index l.cells.items k ≤ l.number;
  long : length l.numbers.items ≡ l.number;
  room : length l.names ≤ vec_capacity l.numbers;
  stand : (k : ℕ) → k < l.number → Stands l.names l.cells.items k (slice_index l.numbers.items k);
}
