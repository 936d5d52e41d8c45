use Rattle.std.proofs.Common.{◌≡◌, ◌+◌, ◌<◌, ◌++◌, codes, [], ◌∷◌, false, length, length-append, sym, ap, ◌∙◌, subst, append-nil, if◌then◌else◌, arith}
use Rattle.text_output.specs.Pieces.{EndsWithinLine, GetsFrontPiece}
use Rattle.text_output.proofs.Pieces.{ends_behind, gets_none}
use Rattle.text_output.proofs.piece.PieceBuffer.put.Goals.{then-self, else-self, then-room-text+in_ok-write_piece, else-room-text}
use Rattle.text_output.proofs.piece.PieceBuffer.put.Goals as goal

pub returns-then-is_empty-clause-piece : goal.returns-then-is_empty-clause-piece
returns-then-is_empty-clause-piece g c = gets_none (g.W.Write.contents c.args.out.now)

pub invariant_of-self-2 : goal.invariant_of-self-2
invariant_of-self-2 g c =
    let room : length c.if-room-text.self-inside.piece.waiting + 1 + length c.args.text.now < 4096 =
    elim c.if-room-text.branch [
      | then-room-text+in_ok-write_piece w ↦ omega (arith, ap (λ s. length s.piece.waiting) w.self-inside-is, ap (λ p. length p.waiting) w.in_ok-write_piece.ensures.given)
      | else-room-text w ↦ omega (arith, ap (λ s. length s.piece.waiting) w.self-inside-is)
    ] in
    let ended : length c.if-self.self-inside.piece.waiting + length c.args.text.now < 4096 =
    elim c.if-self.branch [
      | then-self w ↦ omega (arith, room, ap (λ s. length s.piece.waiting) w.self-inside-is, ap length w.append.ensures.waiting, length-append c.if-room-text.self-inside.piece.waiting (10 ∷ []))
      | else-self w ↦ omega (arith, room, ap (λ s. length s.piece.waiting) w.self-inside-is)
    ] in (
      subst EndsWithinLine (sym c.append-2.ensures.waiting)
          (ends_behind c.if-self.self-inside.piece.waiting c.args.text.now (sym c.is_empty.ensures ∙ c.if-is_empty.false) c.requires.line),
      omega (arith, ap length c.append-2.ensures.waiting, length-append c.if-self.self-inside.piece.waiting c.args.text.now),
    )

pub returns-clause-piece : goal.returns-clause-piece
returns-clause-piece g c = elim c.if-room-text.branch [
  | then-room-text+in_ok-write_piece w ↦ subst (GetsFrontPiece (g.W.Write.contents c.args.out.now)) (ap g.W.Write.contents (sym w.out-is))
      (c.self.inside.piece.waiting, record { size = omega (arith, c.self.invariant.1); within = c.self.invariant.0 }, w.in_ok-write_piece.ensures.ok)
  | else-room-text w ↦ subst (GetsFrontPiece (g.W.Write.contents c.args.out.now)) (ap g.W.Write.contents (sym w.out-is)) (gets_none (g.W.Write.contents c.args.out.now))
]

pub returns-clause-within : goal.returns-clause-within
returns-clause-within g c old =
    let begun : c.if-self.self-inside.line_is_ended ≡ false =
    elim c.if-self.branch [
      | then-self w ↦ ap (λ s. s.line_is_ended) w.self-inside-is
      | else-self w ↦ ap (λ s. s.line_is_ended) w.self-inside-is ∙ w.if-self.false
    ] in
    let w = c.append-2.new.self.waiting in
    subst (λ ended. EndsWithinLine (w ++ (if ended then codes "\n" else []))) (sym begun)
    (subst EndsWithinLine (sym (append-nil w)) (invariant_of-self-2 g c).0)
