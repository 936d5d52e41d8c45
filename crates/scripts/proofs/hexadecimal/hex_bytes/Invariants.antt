use Rattle.std.proofs.Common.{◌≡◌, ◌*◌, drop, Some}
use Rattle.std.specs.Result.{result_ok}
use Rattle.hex.specs.Hex.{decode_pairs}
use Rattle.scripts.proofs.Pieces.{joined}
use Rattle.scripts.proofs.hexadecimal.hex_bytes.Given as goal

abbrev pub invariant-loop-piece : goal.invariant-loop-piece
invariant-loop-piece l =
    result_ok (decode_pairs 0 l.word) ≡ joined (Some l.bytes.items) (result_ok (decode_pairs 0 (drop (32 * l.piece-index) l.word)))
