use Rattle.std.proofs.Common.{◌≡◌, ℕ, ◌++◌, List}
use Rattle.hex.specs.Hex.{encode_lower}
use Rattle.text_output.specs.Pieces.{EndsWithinLine}
use Rattle.text_output.specs.Sends.{Sends}
use Rattle.tool_commands.proofs.hexadecimal.put_hex.Given as goal

abbrev pub invariant-loop-piece : goal.invariant-loop-piece
invariant-loop-piece g l =
    (done : List ℕ) × (l.bytes ≡ done ++ l.piece-iterator.rest.now)
    × Sends (g.W.Write.contents l.fn.out) l.fn.text (g.W.Write.contents l.out) l.text (encode_lower done)
    × (EndsWithinLine l.fn.text.waiting → EndsWithinLine l.text.waiting)
