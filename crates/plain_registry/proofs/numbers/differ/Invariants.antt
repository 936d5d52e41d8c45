use Rattle.std.proofs.Common.{◌≡◌, false, take}
use Rattle.std.specs.Prelude.{AllPairs}
use Rattle.plain_registry.proofs.numbers.differ.Given as goal

abbrev pub invariant-loop-i : goal.invariant-loop-i
invariant-loop-i g l = AllPairs (λ a b. g.T.PartialEq.eq a b ≡ false) (take l.i l.values)
