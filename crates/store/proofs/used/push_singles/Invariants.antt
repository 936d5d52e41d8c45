use Rattle.std.proofs.Common.{◌≡◌, ◌++◌, take, All}
use Rattle.extents.specs.Extent.{places}
use Rattle.store.specs.inside.Claimed.{IsFilled}
use Rattle.store.proofs.used.push_singles.Given as goal

abbrev pub invariant-loop-at : goal.invariant-loop-at
invariant-loop-at l =
    (places l.extents.items ≡ places l.initial.extents.items ++ take l.at-index l.sectors)
    × (All IsFilled l.initial.extents.items → All IsFilled l.extents.items)
