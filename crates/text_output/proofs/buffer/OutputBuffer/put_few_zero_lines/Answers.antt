use Rattle.std.proofs.Common.{◌≡◌, ◌+◌, ◌-◌, ◌++◌, sym, ap, ◌∙◌, subst, arith}
use Rattle.std.specs.Io.KnownBytes.{Appends, append_known}
use Rattle.std.proofs.KnownBytes.{Appends-trans}
use Rattle.text_output.specs.Sends.{Buffered, HasRoom, with_text}
use Rattle.text_output.proofs.Room.{room-next, with-two, not-both}
use Rattle.text_output.proofs.ZeroLines.{zero_lines, zero_lines-more, one-line}
use Rattle.text_output.proofs.buffer.OutputBuffer.put_few_zero_lines.Goals as goal

pub loop-preserved : goal.loop-preserved
loop-preserved g c =
    let i = c.loop.counter in
    let rest = c.args.count - i - 1 in
    let line = c.line-zeros.result in
    let one : line ≡ zero_lines 1 = c.line-zeros.ensures ∙ one-line in
    let more : zero_lines i ++ line ≡ zero_lines (i + 1) = ap (λ l. zero_lines i ++ l) one ∙ zero_lines-more i 1 in
    let all : zero_lines c.args.count ≡ zero_lines i ++ (line ++ zero_lines rest) =
    ap zero_lines (let e : c.args.count ≡ i + (1 + rest) = omega arith in e) ∙ sym (zero_lines-more i (1 + rest))
    ∙ ap (λ l. zero_lines i ++ l) (sym (zero_lines-more 1 rest) ∙ ap (λ l. l ++ zero_lines rest) (sym one)) in
    let start = append_known (g.W.Write.contents c.args.out.now) c.args.self.now.waiting in
    let before = append_known (g.W.Write.contents c.loop.out) c.loop.self.waiting in
    let after = append_known (g.W.Write.contents c.put_piece.new.out) c.put_piece.new.self.waiting in
    record {
      sends = subst (Appends start after) more (Appends-trans start before after (zero_lines i) line c.loop.invariant.sends c.in_ok-put_piece.ensures.ok);
      fits = λ room.
          let was = c.loop.invariant.fits room in
          let here = room-next g.row.SIZE c.args.self.now (zero_lines c.args.count) (zero_lines i) line (zero_lines rest) all room in
          let put = c.put_piece.ensures.fits (subst (λ (b : Buffered). HasRoom g.row.SIZE b line) (sym was.1) here) in
          (put.1 ∙ was.0, put.2 ∙ ap (λ (b : Buffered). with_text b line) was.1 ∙ with-two c.args.self.now (zero_lines i) line ∙ ap (with_text c.args.self.now) more);
    }

pub returns-in_err-put_piece-clause-fits : goal.returns-in_err-put_piece-clause-fits
returns-in_err-put_piece-clause-fits g c = λ room.
    let i = c.loop.counter in
    let rest = c.args.count - i - 1 in
    let line = c.line-zeros.result in
    let one : line ≡ zero_lines 1 = c.line-zeros.ensures ∙ one-line in
    let all : zero_lines c.args.count ≡ zero_lines i ++ (line ++ zero_lines rest) =
    ap zero_lines (let e : c.args.count ≡ i + (1 + rest) = omega arith in e) ∙ sym (zero_lines-more i (1 + rest))
    ∙ ap (λ l. zero_lines i ++ l) (sym (zero_lines-more 1 rest) ∙ ap (λ l. l ++ zero_lines rest) (sym one)) in
    let was = c.loop.invariant.fits room in
    let here = room-next g.row.SIZE c.args.self.now (zero_lines c.args.count) (zero_lines i) line (zero_lines rest) all room in
    let put = c.put_piece.ensures.fits (subst (λ (b : Buffered). HasRoom g.row.SIZE b line) (sym was.1) here) in
    absurd (not-both c.put_piece.result _ _ put.0 c.in_err-put_piece.was)
