use Rattle.std.proofs.Common.{◌≡◌, drop}
use Rattle.std.specs.List.{find}
use Rattle.executable.specs.WritableCode.{is_unasked}
use Rattle.executable.proofs.writable_code.first_unasked.Given as goal

abbrev pub invariant-loop-piece : goal.invariant-loop-piece
invariant-loop-piece l = find (is_unasked l.segments) (drop l.piece-index l.pieces) ≡ find (is_unasked l.segments) l.pieces
