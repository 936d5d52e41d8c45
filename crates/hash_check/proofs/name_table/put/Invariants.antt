use Rattle.std.proofs.Common.{◌≡◌, ◌≤◌}
use Rattle.hash_check.specs.Numbers.{nth_text}
use Rattle.hash_check.specs.inside.NameTable.{HoldOthers}
use Rattle.hash_check.proofs.name_table.put.Given as goal

abbrev pub invariant-loop-at : goal.invariant-loop-at
invariant-loop-at l = record {
  low : l.first ≤ l.at;
  same : l.cells ≡ l.fn.cells;
  others : HoldOthers (nth_text l.names) l.cells (nth_text l.names l.number) l.first l.at;
}
