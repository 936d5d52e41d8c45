use Rattle.std.proofs.Common.{◌≡◌, ℕ, ◌+◌, ◌*◌, ◌/◌, ◌%◌, ◌++◌, ap, ◌∙◌, subst, arith}
use Rattle.std.specs.Prelude.{replicate}
use Rattle.std.specs.Io.KnownBytes.{Appends, append_known}
use Rattle.std.proofs.KnownBytes.{Appends-trans}
use Rattle.std.proofs.lemmas.List.{take-replicate}
use Rattle.text_output.specs.Hexadecimal.{hex_lines}
use Rattle.text_output.proofs.Room.{on-ok}
use Rattle.text_output.proofs.ZeroLines.{zero_lines, zero_lines-and}
use Rattle.text_output.proofs.buffer.OutputBuffer.put_zeros.Goals as goal

pub returns-clause-ok : goal.returns-clause-ok
returns-clause-ok g c =
    let lines = c.args.count / 16 in
    let rest = c.args.count % 16 in
    let start = append_known (g.W.Write.contents c.args.out.now) c.args.self.now.waiting in
    let one = append_known (g.W.Write.contents c.put_zero_lines.new.out) c.put_zero_lines.new.self.waiting in
    let now = append_known (g.W.Write.contents c.put_lines.new.out) c.put_lines.new.self.waiting in
    let all : 16 * lines + rest ≡ c.args.count = omega arith in
    let whole =
    ap (λ l. zero_lines lines ++ hex_lines l) (take-replicate rest 16 0 (omega arith)) ∙ zero_lines-and lines rest ∙ ap (λ (k : ℕ). hex_lines (replicate k 0)) all in
    on-ok c.put_lines.result
    (λ h. subst (Appends start now) whole (Appends-trans start one now (zero_lines lines) _ c.in_ok-put_zero_lines.ensures.ok h))
    c.put_lines.ensures.ok
