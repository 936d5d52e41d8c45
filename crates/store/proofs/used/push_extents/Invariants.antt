use Rattle.std.proofs.Common.{◌≡◌, ◌++◌, take, All}
use Rattle.extents.specs.Extent.{places}
use Rattle.std.specs.List.{flat_map}
use Rattle.store.specs.Stands.{sectors_of}
use Rattle.store.specs.inside.Claimed.{IsFilled}
use Rattle.store.proofs.used.push_extents.Given as goal

abbrev pub invariant-loop-placed : goal.invariant-loop-placed
invariant-loop-placed l =
    (places l.extents.items ≡ places l.initial.extents.items ++ flat_map sectors_of (take l.placed-index l.entries))
    × (All IsFilled l.initial.extents.items → All IsFilled l.extents.items)
