use Rattle.std.proofs.Common.{◌≡◌, ◌≤◌}
use Rattle.std.specs.Vec.{vec_len, vec_capacity}
use Rattle.contents.specs.Finding.{IsFinding, is_unreadable}
use Rattle.contents.proofs.LookedAt.{SeenSoFar}
use Rattle.contents.proofs.contents.Contents.check.Given as goal

abbrev pub invariant-loop-position : goal.invariant-loop-position
invariant-loop-position g l =
    SeenSoFar IsFinding is_unreadable g.D.Disk.facts l.initial.self l.self l.position l.findings.items
    × (vec_len l.findings ≡ l.position)
    × (l.position-end ≤ vec_capacity l.findings)
