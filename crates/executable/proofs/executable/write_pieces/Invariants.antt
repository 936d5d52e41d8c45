use Rattle.std.proofs.Common.{take}
use Rattle.std.specs.List.{flat_map}
use Rattle.std.specs.Io.KnownBytes.{Appends}
use Rattle.executable.specs.File.{piece_bytes}
use Rattle.executable.proofs.executable.write_pieces.Given as goal

abbrev pub invariant-loop-piece : goal.invariant-loop-piece
invariant-loop-piece g l =
    Appends (g.W.Write.contents l.fn.out) (g.W.Write.contents l.out) (flat_map piece_bytes (take l.piece-index l.pieces))
