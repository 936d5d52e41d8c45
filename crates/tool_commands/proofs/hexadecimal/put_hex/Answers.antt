use Rattle.std.proofs.Common.{◌≡◌, [], ◌++◌, sym, ap, ◌∙◌, subst, append_assoc, append-nil}
use Rattle.std.specs.Io.KnownBytes.{Appends, append_known}
use Rattle.std.proofs.KnownBytes.{Appends-nil, Appends-trans}
use Rattle.hex.specs.Hex.{encode_lower, lower_digits}
use Rattle.text_output.proofs.Lines.{no-length}
use Rattle.tool_commands.proofs.Installs.{encode-append, encode-nil}
use Rattle.tool_commands.proofs.hexadecimal.put_hex.Goals as goal

pub loop-piece-init : goal.loop-piece-init
loop-piece-init g c =
    let start = append_known (g.W.Write.contents c.args.out.now) c.args.text.now.waiting in (
      [],
      sym (ap (λ i. i.rest.now) c.into_iter-piece-iterator.ensures.into_iter_gives ∙ c.chunks-piece-items.ensures.rest),
      subst (Appends start start) (encode-nil lower_digits) (Appends-nil start),
      λ h. h,
    )

pub loop-piece-preserved : goal.loop-piece-preserved
loop-piece-preserved g c =
    let done = c.loop-piece.invariant.0 in
    let piece = c.in-Some.piece.now in
    let start = append_known (g.W.Write.contents c.args.out.now) c.args.text.now.waiting in
    let before = append_known (g.W.Write.contents c.loop-piece.out) c.loop-piece.text.waiting in
    let after = append_known (g.W.Write.contents c.put_hex_piece.new.out) c.put_hex_piece.new.text.waiting in (
      done ++ piece,
      c.loop-piece.invariant.1 ∙ ap (λ l. done ++ l) c.in-Some.ensures.steps.1.0 ∙ sym (append_assoc done piece c.next.new.self.rest.now),
      subst (Appends start after) (sym (encode-append lower_digits done piece))
          (Appends-trans start before after (encode_lower done) (encode_lower piece) c.loop-piece.invariant.2 c.in_ok-put_hex_piece.ensures.ok),
      λ h. c.in_ok-put_hex_piece.ensures.within (c.loop-piece.invariant.3 h),
    )

pub returns-clause-within : goal.returns-clause-within
returns-clause-within g c h = c.loop-piece.invariant.3 h

pub returns-clause-ok : goal.returns-clause-ok
returns-clause-ok g c =
    let done = c.loop-piece.invariant.0 in
    let rest = c.loop-piece.piece-iterator.rest.now in
    let start = append_known (g.W.Write.contents c.args.out.now) c.args.text.now.waiting in
    let now = append_known (g.W.Write.contents c.loop-piece.out) c.loop-piece.text.waiting in
    let none : rest ≡ [] = no-length rest c.in-None.ensures.steps.1.0 in
    let all : c.args.bytes.now ≡ done = c.loop-piece.invariant.1 ∙ ap (λ l. done ++ l) none ∙ append-nil done in
    subst (λ l. Appends start now (encode_lower l)) (sym all) c.loop-piece.invariant.2
