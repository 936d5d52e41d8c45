use Rattle.std.proofs.Common.{◌≡◌, ◌+◌, [], ◌∷◌, ◌++◌, take, ap, ◌∙◌, sym, subst}
use Rattle.std.specs.List.{flat_map}
use Rattle.std.specs.Io.KnownBytes.{Appends, append_known}
use Rattle.std.proofs.KnownBytes.{Appends-trans}
use Rattle.std.proofs.lemmas.List.{take_more, flat_map_more}
use Rattle.image.specs.Image.{ImageSegment}
use Rattle.image.specs.Text.{segment_text}
use Rattle.image.proofs.text.put_segments.Goals as goal

pub loop-segment-preserved : goal.loop-segment-preserved
loop-segment-preserved g c =
    let w = g.W.Write.contents in
    let i = c.loop-segment.segment-index in
    let segments = c.args.segments.now in
    let done = take i segments in
    let s : ImageSegment = c.segment-item.result in
    let more : take (i + 1) segments ≡ done ++ s ∷ [] =
    take_more segments i s c.loop-segment-test.true ∙ ap (λ (x : ImageSegment). done ++ x ∷ []) (sym c.segment-item.is) in
    let start = append_known (w c.args.out.now) c.args.buffer.now.waiting in
    let before = append_known (w c.loop-segment.out) c.loop-segment.buffer.waiting in
    let after = append_known (w c.put_segment.new.out) c.put_segment.new.buffer.waiting in
    subst (Appends start after) (flat_map_more segment_text [] done s ∙ sym (ap (flat_map segment_text) more))
    (Appends-trans start before after (flat_map segment_text done) (segment_text s) c.loop-segment.invariant c.in_ok-put_segment.ensures.ok)
