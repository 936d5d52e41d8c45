use Rattle.std.proofs.Common.{◌≡◌, ◌≤◌, length, take}
use Rattle.executable.specs.Piece.{without_zeros}
use Rattle.executable.proofs.piece.length_without_zeros.Given as goal

abbrev pub invariant-loop-length : goal.invariant-loop-length
invariant-loop-length l = record {
  bound : l.length ≤ length l.bytes;
  kept : without_zeros (take l.length l.bytes) ≡ without_zeros l.bytes;
}

abbrev pub decreases-loop-length : goal.decreases-loop-length
decreases-loop-length l = l.length
