use Rattle.std.proofs.Common.{◌≡◌, ◌+◌, ◌-◌, ◌≤◌, [], ◌++◌, length, sym, ap, ◌∙◌, subst, refl, arith, append-nil}
use Rattle.std.specs.Io.KnownBytes.{Appends, append_known}
use Rattle.std.proofs.KnownBytes.{Appends-trans, append_known-moved, append_known-grown}
use Rattle.text_output.specs.Sends.{Buffered, HasRoom}
use Rattle.text_output.proofs.Room.{on-ok}
use Rattle.text_output.proofs.ZeroLines.{zero_lines, zero_lines-more, length-zero_lines, sent-and-kept}
use Rattle.text_output.proofs.buffer.OutputBuffer.put_zero_lines.Goals as goal

pub loop-left-init : goal.loop-left-init
loop-left-init g c =
    let count = c.args.count in
    let full = c.min-full.result in
    let few : full ≤ count = omega (arith, c.min-full.ensures) in
    let start = append_known (g.W.Write.contents c.args.out.now) c.args.self.now.waiting in
    let empty : c.send.new.self.waiting ≡ [] = ap (λ (b : Buffered). b.waiting) c.in_ok-send.ensures.sent in
    let room : HasRoom g.row.SIZE c.send.new.self (zero_lines full) =
    omega (arith, c.room.ensures.room, length-zero_lines full, ap length empty, c.min-full.ensures) in
    let put = c.put_few_zero_lines-2.ensures.fits room in
    let waits : c.put_few_zero_lines-2.new.self.waiting ≡ zero_lines full =
    ap (λ (b : Buffered). b.waiting) put.2 ∙ ap (λ l. l ++ zero_lines full) empty in
    let sent = append_known-moved (g.W.Write.contents c.args.out.now) (g.W.Write.contents c.send.new.out) c.args.self.now.waiting [] c.args.self.now.waiting
    c.in_ok-send.ensures.ok (sym (append-nil c.args.self.now.waiting)) in
    let grown = append_known-grown start (g.W.Write.contents c.send.new.out) [] (zero_lines full) (zero_lines full) sent refl in
    let kept = subst (λ l. Appends start (append_known (g.W.Write.contents c.send.new.out) l) (zero_lines full)) (sym waits) grown in
    let now = subst (λ o. Appends start (append_known (g.W.Write.contents o) c.put_few_zero_lines-2.new.self.waiting) (zero_lines full)) (sym put.1) kept in
    record {
      left = omega arith;
      waits = waits;
      sends = subst (λ n. Appends start (append_known (g.W.Write.contents c.put_few_zero_lines-2.new.out) c.put_few_zero_lines-2.new.self.waiting) (zero_lines n))
          (let e : full ≡ count - (count - full) = omega (arith, few) in e) now;
    }

pub loop-left-preserved : goal.loop-left-preserved
loop-left-preserved g c =
    let count = c.args.count in
    let left = c.loop-left.left in
    let full = c.min-full.result in
    let start = append_known (g.W.Write.contents c.args.out.now) c.args.self.now.waiting in
    let before = append_known (g.W.Write.contents c.loop-left.out) c.loop-left.self.waiting in
    let after = append_known (g.W.Write.contents c.send_and_keep.new.out) c.send_and_keep.new.self.waiting in
    let again : Appends before (append_known (g.W.Write.contents c.send_and_keep.new.out) c.loop-left.self.waiting) c.loop-left.self.waiting =
    sent-and-kept (g.W.Write.contents c.loop-left.out) (g.W.Write.contents c.send_and_keep.new.out) c.loop-left.self.waiting c.in_ok-send_and_keep.ensures.ok in
    let kept : c.send_and_keep.new.self.waiting ≡ c.loop-left.self.waiting = ap (λ (b : Buffered). b.waiting) c.in_ok-send_and_keep.ensures.kept in
    let step : Appends before after (zero_lines full) =
    subst (λ l. Appends before after l) c.loop-left.invariant.waits
    (subst (λ l. Appends before (append_known (g.W.Write.contents c.send_and_keep.new.out) l) c.loop-left.self.waiting) (sym kept) again) in
    let more : zero_lines (count - left) ++ zero_lines full ≡ zero_lines (count - (left - full)) =
    zero_lines-more (count - left) full ∙ ap zero_lines (let e : count - left + full ≡ count - (left - full) = omega arith in e) in
    record {
      left = omega arith;
      waits = kept ∙ c.loop-left.invariant.waits;
      sends = subst (Appends start after) more (Appends-trans start before after (zero_lines (count - left)) (zero_lines full) c.loop-left.invariant.sends step);
    }

pub returns-clause-ok : goal.returns-clause-ok
returns-clause-ok g c =
    let count = c.args.count in
    let left = c.loop-left.left in
    let start = append_known (g.W.Write.contents c.args.out.now) c.args.self.now.waiting in
    let before = append_known (g.W.Write.contents c.loop-left.out) c.loop-left.self.waiting in
    let after = append_known (g.W.Write.contents c.put_few_zero_lines-3.new.out) c.put_few_zero_lines-3.new.self.waiting in
    let more : zero_lines (count - left) ++ zero_lines left ≡ zero_lines count =
    zero_lines-more (count - left) left ∙ ap zero_lines (let e : count - left + left ≡ count = omega (arith, c.loop-left.invariant.left) in e) in
    on-ok c.put_few_zero_lines-3.result
    (λ h. subst (Appends start after) more (Appends-trans start before after (zero_lines (count - left)) (zero_lines left) c.loop-left.invariant.sends h))
    c.put_few_zero_lines-3.ensures.ok
