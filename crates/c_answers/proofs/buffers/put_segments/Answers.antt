use Rattle.std.proofs.Common.{List, get_or, subst, ◌≡◌, ◌∙◌, ◌+◌, ◌++◌, ◌∷◌, [], inr, ap, sym, take, length, arith}
use Rattle.std.proofs.lemmas.List.{take_more, take_more_set}
use Rattle.image.specs.Image.{ImageSegment}
use Rattle.c_answers.specs.Buffers.{place_of, places_of}
use Rattle.c_answers.proofs.Places.{segment_more}
use Rattle.c_answers.proofs.Rows.{end_more, front_more, room_lacks, none_holds, none_given}
use Rattle.c_answers.proofs.buffers.put_segments.Goals as goal

pub returns-in_err-at-clause-small : goal.returns-in_err-at-clause-small
returns-in_err-at-clause-small c =
    let segments = c.args.image.now.segments in
    none_holds c.from_residual.result (inr (room_lacks (λ (s : ImageSegment). s.bytes) segments c.loop-i.i c.segment-item.result
    (omega (arith, ap length c.segments-segment-items.ensures.segments))
    (subst (λ (l : List ImageSegment). c.segment-item.result ≡ get_or l c.loop-i.i c.segment-item.result) c.segments-segment-items.ensures.segments
    c.segment-item.is) c.loop-i.at c.loop-i.invariant.at (length c.args.bytes.now)
    (omega (arith, c.in_err-at.ensures.small, c.loop-i.auto.bytes, ap length c.memory.ensures))))

pub loop-i-preserved : goal.loop-i-preserved
loop-i-preserved c =
    let segments = c.args.image.now.segments in
    let i = c.loop-i.i in
    let s : ImageSegment = c.segment-item.result in
    let was = c.loop-i.invariant in
    let bytes = λ (x : ImageSegment). x.bytes in
    record {
      at = end_more bytes segments i s (omega (arith, ap length c.segments-segment-items.ensures.segments))
          (subst (λ (l : List ImageSegment). c.segment-item.result ≡ get_or l c.loop-i.i c.segment-item.result) c.segments-segment-items.ensures.segments
          c.segment-item.is) c.loop-i.at was.at c.in_ok-at.at (c.in_ok-at.ensures.end ∙ ap (λ l. c.loop-i.at + length l) c.memory.ensures);
      bytes = front_more bytes segments i s (omega (arith, ap length c.segments-segment-items.ensures.segments))
          (subst (λ (l : List ImageSegment). c.segment-item.result ≡ get_or l c.loop-i.i c.segment-item.result) c.segments-segment-items.ensures.segments
          c.segment-item.is) c.loop-i.at was.at c.loop-i.bytes c.put_memory.new.out c.in_ok-at.at was.bytes
          (c.in_ok-at.ensures.front ∙ ap (λ l. take c.loop-i.at c.loop-i.bytes ++ l) c.memory.ensures);
      places = take_more_set c.loop-i.places i c.place_of.result (omega arith)
          ∙ ap (λ l. l ++ c.place_of.result ∷ []) was.places
          ∙ ap (λ p. places_of 0 (take i segments) ++ p ∷ []) (c.place_of.ensures ∙ ap (λ n. place_of n s) (omega (arith, was.at)))
          ∙ sym (segment_more 0 (take i segments) s)
          ∙ ap (places_of 0) (ap (λ x. take i segments ++ x ∷ [])
          (subst (λ (l : List ImageSegment). c.segment-item.result ≡ get_or l c.loop-i.i c.segment-item.result) c.segments-segment-items.ensures.segments
          c.segment-item.is) ∙ sym (take_more segments i s (omega (arith, ap length c.segments-segment-items.ensures.segments))));
    }

pub returns-in_err-at-clause-end : goal.returns-in_err-at-clause-end
returns-in_err-at-clause-end c = none_given c.from_residual.result c.from_residual.ensures _

pub returns-in_err-at-clause-bytes : goal.returns-in_err-at-clause-bytes
returns-in_err-at-clause-bytes c = none_given c.from_residual.result c.from_residual.ensures _

pub returns-in_err-at-clause-places : goal.returns-in_err-at-clause-places
returns-in_err-at-clause-places c = none_given c.from_residual.result c.from_residual.ensures _
