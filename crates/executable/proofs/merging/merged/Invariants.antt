use Rattle.std.proofs.Common.{◌≡◌, ◌++◌, length}
use Rattle.std.specs.Vec.Iter.{into_iter_items, into_iter_len}
use Rattle.executable.specs.Piece.{end_of, merged_from, merged}
use Rattle.executable.specs.inside.Joining.{IsShort, AreInRow}
use Rattle.executable.proofs.merging.merged.Given as goal

abbrev pub invariant-loop-piece : goal.invariant-loop-piece
invariant-loop-piece l = record {
  items : l.done.items ++ merged_from l.last (into_iter_items l.piece-iterator) ≡ merged l.fn.pieces.items;
  short : IsShort l.last;
  row : AreInRow (end_of l.last) (into_iter_items l.piece-iterator);
  length : into_iter_len l.piece-iterator ≡ length (into_iter_items l.piece-iterator);
}
