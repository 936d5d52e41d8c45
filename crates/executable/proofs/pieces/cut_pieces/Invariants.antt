use Rattle.std.proofs.Common.{◌≡◌, ◌++◌, ℕ, drop, map}
use Rattle.image.specs.Image.{AreRising}
use Rattle.executable.specs.Piece.{finished, cut_pieces}
use Rattle.executable.specs.inside.Joining.{pieces_after, IsReady}
use Rattle.executable.proofs.pieces.cut_pieces.Given as goal

abbrev pub invariant-loop-segment : goal.invariant-loop-segment
invariant-loop-segment l = record {
  pieces : l.done.items ++ map finished (pieces_after l.last (drop l.segment-index l.segments)) ≡ map finished (cut_pieces l.segments);
  rising : (from : ℕ) × IsReady l.last from × AreRising from (drop l.segment-index l.segments);
}
