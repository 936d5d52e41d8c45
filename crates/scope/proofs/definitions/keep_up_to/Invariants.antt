use Rattle.std.proofs.Common.{◌<◌, ◌≤◌, ◌-◌, ℕ, length}
use Rattle.hash_check.specs.Numbered.{nth_symbol}
use Rattle.scope.specs.inside.Definitions.{AreLast}
use Rattle.scope.proofs.definitions.keep_up_to.Given as goal

abbrev pub invariant-loop-at : goal.invariant-loop-at
invariant-loop-at l = record {
  last : AreLast l.objects l.symbols l.at l.last;
  within : l.at ≤ length l.symbols;
  low : (k : ℕ) → k < l.at → (nth_symbol l.symbols k).object ≤ l.place;
}

abbrev pub decreases-loop-at : goal.decreases-loop-at
decreases-loop-at l = length l.symbols - l.at
