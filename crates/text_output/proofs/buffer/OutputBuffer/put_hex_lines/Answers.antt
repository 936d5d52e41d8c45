use Rattle.std.proofs.Common.{◌≡◌, ℕ, ◌-◌, ◌/◌, ◌%◌, ◌++◌, length, take, ap, ◌∙◌, subst, arith, take-append-drop}
use Rattle.std.specs.Io.KnownBytes.{Appends, append_known}
use Rattle.std.proofs.KnownBytes.{Appends-trans}
use Rattle.text_output.specs.Hexadecimal.{hex_lines}
use Rattle.text_output.proofs.Room.{on-ok}
use Rattle.text_output.proofs.ZeroLines.{zero_lines, lines-in-three}
use Rattle.text_output.proofs.buffer.OutputBuffer.put_hex_lines.Goals as goal

pub returns-clause-ok : goal.returns-clause-ok
returns-clause-ok g c =
    let bytes = c.args.bytes.now in
    let whole = length bytes - length bytes % 64 in
    let lines = c.split_at.result.0.now in
    let rest = c.split_at.result.1.now in
    let n = c.zeros_begin.result in
    let front = c.split_at-2.result.0.now in
    let start = append_known (g.W.Write.contents c.args.out.now) c.args.self.now.waiting in
    let one = append_known (g.W.Write.contents c.put_lines.new.out) c.put_lines.new.self.waiting in
    let two = append_known (g.W.Write.contents c.put_zero_lines.new.out) c.put_zero_lines.new.self.waiting in
    let now = append_known (g.W.Write.contents c.put_lines-2.new.out) c.put_lines-2.new.self.waiting in
    let all : lines ++ rest ≡ bytes =
    ap (λ l. l ++ rest) c.split_at.ensures.front ∙ ap (λ l. take whole bytes ++ l) c.split_at.ensures.back ∙ take-append-drop whole bytes in
    let even : length lines % 16 ≡ 0 = omega (arith, c.split_at.ensures.front_len) in
    let first : n % 16 ≡ 0 = omega (arith, c.zeros_begin.ensures.whole) in
    let three = lines-in-three bytes lines rest front n all even c.zeros_begin.ensures.within first c.split_at-2.ensures.front c.zeros_begin.ensures.zeros in
    let count : length c.split_at-2.result.1.now ≡ length lines - n = omega (arith, c.split_at-2.ensures.back_len) in
    let zeros : Appends one two (zero_lines ((length lines - n) / 16)) =
    subst (λ (k : ℕ). Appends one two (zero_lines (k / 16))) count c.in_ok-put_zero_lines.ensures.ok in
    on-ok c.put_lines-2.result
    (λ h. subst (Appends start now) three (Appends-trans start two now (hex_lines front ++ zero_lines ((length lines - n) / 16)) (hex_lines rest)
    (Appends-trans start one two (hex_lines front) (zero_lines ((length lines - n) / 16)) c.in_ok-put_lines.ensures.ok zeros) h))
    c.put_lines-2.ensures.ok
