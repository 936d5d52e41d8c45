use Rattle.std.proofs.Common.{drop}
use Rattle.store.proofs.DraftSettles.{IsSettledTo}
use Rattle.store.proofs.draft_room.release_unlisted.Given as goal

abbrev pub invariant-loop-placed : goal.invariant-loop-placed
invariant-loop-placed l = IsSettledTo l.entries l.draft.entries.items l.initial.held l.held l.initial.layout l.layout (drop l.placed-index l.entries)
