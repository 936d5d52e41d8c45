use Rattle.std.proofs.Common.{◌≡◌, ◌++◌, map, take, drop}
use Rattle.store.specs.inside.NameIndex.{closed_up}
use Rattle.store.proofs.name_index.close_up.Given as goal

abbrev pub invariant-loop-position : goal.invariant-loop-position
invariant-loop-position l = l.positions ≡ map (closed_up l.gone) (take l.position-index l.fn.positions) ++ drop l.position-index l.fn.positions
