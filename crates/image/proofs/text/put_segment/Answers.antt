use Rattle.std.proofs.Common.{◌≡◌, ◌-◌, ◌++◌, [], length, replicate, ap, ◌∙◌, sym, subst, arith}
use Rattle.std.specs.Prelude.{OnOk, if◌then◌else◌}
use Rattle.std.specs.Io.KnownBytes.{Appends, append_known}
use Rattle.std.proofs.lemmas.Bool.{ne_eqb}
use Rattle.text_output.specs.Hexadecimal.{hex_lines}
use Rattle.image.specs.Text.{segment_line, segment_text}
use Rattle.image.proofs.Then.{then}
use Rattle.image.proofs.text.put_segment.Goals as goal

pub returns-clause-ok : goal.returns-clause-ok
returns-clause-ok g c =
    let w = g.W.Write.contents in
    let s = c.args.segment.now in
    let front = c.front-front.result.now in
    let zeros = c.len-2.result - length front in
    let start = append_known (w c.args.out.now) c.args.buffer.now.waiting in
    let middle = append_known (w c.put_segment_line.new.out) c.put_segment_line.new.buffer.waiting in
    let end = append_known (w c.put_padded_hex_lines.new.out) c.put_padded_hex_lines.new.self.waiting in
    let bytes : front ++ replicate zeros 0 ≡ s.bytes =
    ap (λ n. front ++ replicate n 0) (omega (arith, c.len-2.ensures.len, ap length c.memory-memory.ensures)) ∙ sym c.front-front.ensures.all ∙ c.memory-memory.ensures in
    let filled = ne_eqb (length s.bytes) 0 (λ none. c.if-len-eq0.false (omega (arith, none, c.len.ensures.len, ap length c.memory-memory.ensures))) in
    let whole : segment_line s ++ hex_lines (front ++ replicate zeros 0) ≡ segment_text s =
    ap (λ l. segment_line s ++ hex_lines l) bytes ∙ sym (ap (λ b. if b then [] else segment_line s ++ hex_lines s.bytes) filled) in
    subst (λ text. OnOk c.put_padded_hex_lines.result (Appends start end text)) whole
    ((then) c.put_padded_hex_lines.result start middle end (segment_line s) (hex_lines (front ++ replicate zeros 0)) c.in_ok-put_segment_line.ensures.ok c.put_padded_hex_lines.ensures.ok)
