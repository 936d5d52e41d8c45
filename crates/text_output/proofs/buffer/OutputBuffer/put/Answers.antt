use Rattle.std.proofs.Common.{◌≡◌, [], ◌++◌, refl, sym, ap, ◌∙◌, subst, append_assoc, append-nil}
use Rattle.std.specs.Io.KnownBytes.{Appends, append_known}
use Rattle.std.proofs.KnownBytes.{Appends-nil, Appends-trans}
use Rattle.text_output.specs.Sends.{Buffered, HasRoom, with_text}
use Rattle.text_output.proofs.Lines.{no-length}
use Rattle.text_output.proofs.Room.{room-next, with-two, with-nothing, not-both}
use Rattle.text_output.proofs.buffer.OutputBuffer.put.Goals as goal

pub loop-piece-init : goal.loop-piece-init
loop-piece-init g c = (
  [],
  sym (ap (λ i. i.rest.now) c.into_iter-piece-iterator.ensures.into_iter_gives ∙ c.chunks-piece-items.ensures.rest),
  Appends-nil (append_known (g.W.Write.contents c.args.out.now) c.args.self.now.waiting),
  λ room. (refl, with-nothing c.args.self.now),
)

pub loop-piece-preserved : goal.loop-piece-preserved
loop-piece-preserved g c =
    let done = c.loop-piece.invariant.0 in
    let piece = c.in-Some.piece.now in
    let start = append_known (g.W.Write.contents c.args.out.now) c.args.self.now.waiting in
    let before = append_known (g.W.Write.contents c.loop-piece.out) c.loop-piece.self.waiting in
    let after = append_known (g.W.Write.contents c.put_piece.new.out) c.put_piece.new.self.waiting in (
      done ++ piece,
      c.loop-piece.invariant.1 ∙ ap (λ l. done ++ l) c.in-Some.ensures.steps.1.0 ∙ sym (append_assoc done piece c.next.new.self.rest.now),
      Appends-trans start before after done piece c.loop-piece.invariant.2 c.in_ok-put_piece.ensures.ok,
      λ room.
          let text = c.loop-piece.invariant.1 ∙ ap (λ l. done ++ l) c.in-Some.ensures.steps.1.0 in
          let was = c.loop-piece.invariant.3 room in
          let here = room-next g.row.SIZE c.args.self.now c.args.text.now done piece c.next.new.self.rest.now text room in
          let put = c.put_piece.ensures.fits (subst (λ (b : Buffered). HasRoom g.row.SIZE b piece) (sym was.1) here) in
          (put.1 ∙ was.0, put.2 ∙ ap (λ (b : Buffered). with_text b piece) was.1 ∙ with-two c.args.self.now done piece),
    )

pub returns-in_err-put_piece-clause-fits : goal.returns-in_err-put_piece-clause-fits
returns-in_err-put_piece-clause-fits g c = λ room.
    let done = c.loop-piece.invariant.0 in
    let piece = c.in-Some.piece.now in
    let text = c.loop-piece.invariant.1 ∙ ap (λ l. done ++ l) c.in-Some.ensures.steps.1.0 in
    let was = c.loop-piece.invariant.3 room in
    let here = room-next g.row.SIZE c.args.self.now c.args.text.now done piece c.next.new.self.rest.now text room in
    let put = c.put_piece.ensures.fits (subst (λ (b : Buffered). HasRoom g.row.SIZE b piece) (sym was.1) here) in
    absurd (not-both c.put_piece.result _ _ put.0 c.in_err-put_piece.was)

pub returns-clause-ok : goal.returns-clause-ok
returns-clause-ok g c =
    let done = c.loop-piece.invariant.0 in
    let rest = c.loop-piece.piece-iterator.rest.now in
    let start = append_known (g.W.Write.contents c.args.out.now) c.args.self.now.waiting in
    let now = append_known (g.W.Write.contents c.loop-piece.out) c.loop-piece.self.waiting in
    let none : rest ≡ [] = no-length rest c.in-None.ensures.steps.1.0 in
    let all : c.args.text.now ≡ done = c.loop-piece.invariant.1 ∙ ap (λ l. done ++ l) none ∙ append-nil done in
    subst (Appends start now) (sym all) c.loop-piece.invariant.2

pub returns-clause-fits : goal.returns-clause-fits
returns-clause-fits g c = λ room.
    let done = c.loop-piece.invariant.0 in
    let rest = c.loop-piece.piece-iterator.rest.now in
    let none : rest ≡ [] = no-length rest c.in-None.ensures.steps.1.0 in
    let all : c.args.text.now ≡ done = c.loop-piece.invariant.1 ∙ ap (λ l. done ++ l) none ∙ append-nil done in
    let was = c.loop-piece.invariant.3 room in
    (refl, was.0, was.1 ∙ ap (with_text c.args.self.now) (sym all))
