use Rattle.std.proofs.Common.{ℕ, ◌<◌}
use Rattle.std.specs.Prelude.{slice_index}
use Rattle.hash_check.specs.inside.Lanes.{AreLanes, AllMet, IsMet}
use Rattle.hash_check.proofs.table.meets_exports.Given as goal

abbrev pub invariant-loop-k : goal.invariant-loop-k
invariant-loop-k l = record {
  lanes : AreLanes l.object l.lanes;
  met : AllMet l.object l.lanes.symbols → (j : ℕ) → j < l.k → IsMet l.object (slice_index l.exports.symbols.items j);
}
