use Rattle.std.proofs.Common.{◌≡◌, ◌≤◌, All}
use Rattle.std.specs.Prelude.{is_none}
use Rattle.std.specs.Vec.{vec_len, vec_capacity}
use Rattle.contents.specs.Digest.{IsDigestOfSome}
use Rattle.contents.proofs.LookedAt.{SeenSoFar}
use Rattle.contents.proofs.Unseen.{IsDigestOf}
use Rattle.contents.proofs.contents.Contents.digests.Given as goal

abbrev pub invariant-loop-position : goal.invariant-loop-position
invariant-loop-position g l =
    SeenSoFar IsDigestOf is_none g.D.Disk.facts l.initial.self l.self l.position l.digests.items
    × (vec_len l.digests ≡ l.position)
    × (l.position-end ≤ vec_capacity l.digests)
    × All IsDigestOfSome l.digests.items
