use Rattle.std.proofs.Common.{◌≡◌, ◌++◌, List, ℕ, vec_len}
use Rattle.snapshots.specs.Snapshot.{LetsAllGo}
use Rattle.snapshots.proofs.release.release.Given as goal

abbrev pub invariant-loop-held : goal.invariant-loop-held
invariant-loop-held g l = (gone : List ℕ) × (l.left.items ++ gone ≡ l.fn.handles.items) × LetsAllGo g.D.Disk.facts l.fn.store l.store gone

abbrev pub decreases-loop-held : goal.decreases-loop-held
decreases-loop-held g l = vec_len l.left
