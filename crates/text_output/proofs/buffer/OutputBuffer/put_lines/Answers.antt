use Rattle.std.proofs.Common.{◌≡◌, ◌/◌, ◌%◌, ◌++◌, ◌∷◌, [], ◌<◌, length, sym, ap, ◌∙◌, subst, arith}
use Rattle.std.specs.Io.KnownBytes.{Appends, append_known}
use Rattle.std.proofs.KnownBytes.{Appends-trans}
use Rattle.std.proofs.lemmas.Bool.{eqb-true}
use Rattle.hex.specs.Hex.{encode_lower}
use Rattle.text_output.specs.Hexadecimal.{line_at, first_lines}
use Rattle.text_output.proofs.Room.{on-ok}
use Rattle.text_output.proofs.Lines.{lines-more, line-of, whole-lines, last-line, not-zero}
use Rattle.text_output.proofs.buffer.OutputBuffer.put_lines.Goals as goal

pub loop-bytes-preserved : goal.loop-bytes-preserved
loop-bytes-preserved g c =
    let bytes = c.args.bytes.now in
    let i = c.loop-bytes.bytes-index in
    let start = append_known (g.W.Write.contents c.args.out.now) c.args.self.now.waiting in
    let before = append_known (g.W.Write.contents c.loop-bytes.out) c.loop-bytes.self.waiting in
    let after = append_known (g.W.Write.contents c.put_piece.new.out) c.put_piece.new.self.waiting in
    let within : i < length bytes / 16 = omega (arith, c.loop-bytes-test.true, c.as_chunks.ensures.front_len) in
    let line : c.line.result ≡ line_at bytes i =
    c.line.ensures ∙ line-of c.as_chunks.result.0.now (length bytes / 16) i bytes _ c.as_chunks.ensures.front within in
    let whole = ap (λ t. first_lines bytes i ++ t) line ∙ sym (lines-more (line_at bytes) i) in
    subst (Appends start after) whole (Appends-trans start before after (first_lines bytes i) _ c.loop-bytes.invariant c.in_ok-put_piece.ensures.ok)

pub returns-then-is_empty-clause-ok : goal.returns-then-is_empty-clause-ok
returns-then-is_empty-clause-ok g c =
    let bytes = c.args.bytes.now in
    let i = c.loop-bytes.bytes-index in
    let start = append_known (g.W.Write.contents c.args.out.now) c.args.self.now.waiting in
    let now = append_known (g.W.Write.contents c.loop-bytes.out) c.loop-bytes.self.waiting in
    let all : i ≡ length bytes / 16 = omega (arith, c.loop-bytes-test.false, c.loop-bytes.auto.bytes-index-end, c.as_chunks.ensures.front_len) in
    let none : length bytes % 16 ≡ 0 = sym c.as_chunks.ensures.back_len ∙ eqb-true (length c.as_chunks.result.1.now) 0 (sym c.if-is_empty.ensures) in
    subst (Appends start now) (whole-lines bytes i all none) c.loop-bytes.invariant

pub returns-clause-ok : goal.returns-clause-ok
returns-clause-ok g c =
    let bytes = c.args.bytes.now in
    let rest = c.as_chunks.result.1.now in
    let i = c.loop-bytes.bytes-index in
    let start = append_known (g.W.Write.contents c.args.out.now) c.args.self.now.waiting in
    let before = append_known (g.W.Write.contents c.loop-bytes.out) c.loop-bytes.self.waiting in
    let after = append_known (g.W.Write.contents c.put_short_line.new.out) c.put_short_line.new.self.waiting in
    let all : i ≡ length bytes / 16 = omega (arith, c.loop-bytes-test.false, c.loop-bytes.auto.bytes-index-end, c.as_chunks.ensures.front_len) in
    let more : 0 < length rest = not-zero (length rest) (sym c.if-is_empty.ensures) in
    let some : 0 < length bytes % 16 = omega (arith, more, c.as_chunks.ensures.back_len) in
    let whole = last-line bytes rest i all some c.as_chunks.ensures.back c.as_chunks.ensures.back_len in
    on-ok c.put_short_line.result
    (λ h. subst (Appends start after) whole (Appends-trans start before after (first_lines bytes i) (encode_lower rest ++ 10 ∷ []) c.loop-bytes.invariant h))
    c.put_short_line.ensures.ok
