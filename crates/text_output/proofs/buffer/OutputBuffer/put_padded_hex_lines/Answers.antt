use Rattle.std.proofs.Common.{◌≡◌, ℕ, List, ◌+◌, ◌-◌, ◌*◌, ◌/◌, ◌%◌, ◌<◌, ◌++◌, length, take, ap, ◌∙◌, subst, arith, take-append-drop}
use Rattle.std.specs.Prelude.{min, replicate}
use Rattle.std.specs.Io.KnownBytes.{Appends, append_known}
use Rattle.std.proofs.KnownBytes.{Appends-trans}
use Rattle.text_output.specs.Hexadecimal.{hex_lines}
use Rattle.text_output.proofs.Room.{on-ok}
use Rattle.text_output.proofs.ZeroLines.{padded-lines}
use Rattle.text_output.proofs.buffer.OutputBuffer.put_padded_hex_lines.Goals as goal

pub returns-clause-ok : goal.returns-clause-ok
returns-clause-ok g c =
    let bytes = c.args.bytes.now in
    let zeros = c.args.zeros in
    let cut = length bytes - length bytes % 16 in
    let lines = c.split_at.result.0.now in
    let rest = c.split_at.result.1.now in
    let more = c.min-more.result in
    let start = append_known (g.W.Write.contents c.args.out.now) c.args.self.now.waiting in
    let one = append_known (g.W.Write.contents c.put_hex_lines.new.out) c.put_hex_lines.new.self.waiting in
    let two = append_known (g.W.Write.contents c.put_lines.new.out) c.put_lines.new.self.waiting in
    let now = append_known (g.W.Write.contents c.put_zeros.new.out) c.put_zeros.new.self.waiting in
    let all : lines ++ rest ≡ bytes =
    ap (λ l. l ++ rest) c.split_at.ensures.front ∙ ap (λ l. take cut bytes ++ l) c.split_at.ensures.back ∙ take-append-drop cut bytes in
    let whole : length lines ≡ 16 * (length bytes / 16) = omega (arith, c.split_at.ensures.front_len) in
    let short : length rest < 16 = omega (arith, c.split_at.ensures.back_len) in
    let least : more ≡ min zeros (16 - length rest) = c.min-more.ensures in
    let line : List ℕ = take (length rest + more) (rest ++ replicate (16 - length rest) 0) in
    let same = ap (λ (l : List ℕ). hex_lines (take (length rest + more) l)) c.line_of-line.ensures in
    let middle : Appends one two (hex_lines line) = subst (Appends one two) same c.in_ok-put_lines.ensures.ok in
    on-ok c.put_zeros.result
    (λ h. subst (Appends start now) (padded-lines bytes lines rest zeros more (length bytes / 16) all whole short least)
    (Appends-trans start two now (hex_lines lines ++ hex_lines line) (hex_lines (replicate (zeros - more) 0))
    (Appends-trans start one two (hex_lines lines) (hex_lines line) c.in_ok-put_hex_lines.ensures.ok middle) h))
    c.put_zeros.ensures.ok
