use Rattle.std.proofs.Common.{◌≡◌, false, take}
use Rattle.std.specs.Prelude.{AllPairs}
use Rattle.std.specs.Str.{bytes_eq}
use Rattle.plain_registry.proofs.libraries.differ.Given as goal

abbrev pub invariant-loop-i : goal.invariant-loop-i
invariant-loop-i l = AllPairs (λ a b. bytes_eq a.name b.name ≡ false) (take l.i l.libraries)
