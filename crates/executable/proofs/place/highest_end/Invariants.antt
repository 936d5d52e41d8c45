use Rattle.std.proofs.Common.{◌≡◌, ◌≤◌, drop, map}
use Rattle.std.specs.Prelude.{max, fold}
use Rattle.image.specs.Constant.{MEMORY_LIMIT}
use Rattle.executable.specs.Piece.{end_of}
use Rattle.executable.specs.Place.{highest_end}
use Rattle.executable.proofs.place.highest_end.Given as goal

abbrev pub invariant-loop-piece : goal.invariant-loop-piece
invariant-loop-piece l = record {
  rest : fold max l.highest (map end_of (drop l.piece-index l.pieces)) ≡ highest_end l.pieces;
  bound : l.highest ≤ MEMORY_LIMIT;
}
