use Rattle.std.proofs.Common.{◌≡◌, ℕ, ◌++◌, List}
use Rattle.text_output.specs.Sends.{Sends, HasRoom, with_text}
use Rattle.text_output.proofs.buffer.OutputBuffer.put.Given as goal

abbrev pub invariant-loop-piece : goal.invariant-loop-piece
invariant-loop-piece g l =
    (done : List ℕ) × (l.text ≡ done ++ l.piece-iterator.rest.now)
    × Sends (g.W.Write.contents l.fn.out) l.fn.self (g.W.Write.contents l.out) l.self done
    × (HasRoom g.row.SIZE l.fn.self l.text → (l.out ≡ l.fn.out) × (l.self ≡ with_text l.fn.self done))
