use Rattle.std.proofs.Common.{◌≡◌, take}
use Rattle.store.proofs.draft.preloads_of.Given as goal

abbrev pub invariant-loop-position : goal.invariant-loop-position
invariant-loop-position l = l.preloads.items ≡ take l.position-index l.position-items
