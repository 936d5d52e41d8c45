use Rattle.std.proofs.Common.{◌≡◌, ◌<◌, ◌≤◌, ℕ, length}
use Rattle.std.specs.Vec.{vec_capacity}
use Rattle.hash_check.specs.Numbered.{nth_symbol}
use Rattle.scope.specs.inside.Definitions.{AreLast, nth_target, own_definition}
use Rattle.scope.proofs.definitions.own_definitions.Given as goal

abbrev pub invariant-loop-at : goal.invariant-loop-at
invariant-loop-at l = record {
  last : AreLast l.objects l.symbols l.kept l.last.items;
  within : l.kept ≤ length l.symbols;
  low : (j k : ℕ) → j < l.kept → l.at ≤ k → k < length l.symbols → (nth_symbol l.symbols j).object ≤ (nth_symbol l.symbols k).object;
  count : length l.own.items ≡ l.at;
  room : length l.symbols ≤ vec_capacity l.own;
  own : (k : ℕ) → k < l.at → nth_target l.own.items k ≡ own_definition l.objects (nth_symbol l.symbols k);
}
