use Rattle.std.proofs.Common.{◌≡◌, ◌+◌, ◌≤◌, ◌<◌, ◌==◌, ℕ, true, List, [], ◌∷◌, ◌++◌, drop, length, map, get_or, Option, Some, None, refl, sym, ap, ◌∙◌, subst, arith}
use Rattle.std.proofs.lemmas.Bool.{eq-eqb}
use Rattle.std.proofs.lemmas.List.{drop_more, drop_all, append-nil}
use Rattle.image.specs.Image.{AreRising, ImageSegment}
use Rattle.image.specs.Loading.{Loaded}
use Rattle.executable.specs.Piece.{finished}
use Rattle.executable.specs.inside.Joining.{pieces_after, IsReady}
use Rattle.executable.proofs.Rising.{Rises, rises}
use Rattle.executable.proofs.pieces.cut_pieces.Goals as goal
use Rattle.executable.proofs.pieces.cut_pieces.Goals.{then-len-ne0+in_ok-add, else-len-ne0, in-Some+in_ok-push, in_default}

-- if a piece is ready for a segment at one address, it is ready for a segment at a higher one
ready-higher : (last : Option Loaded) (a b : ℕ) → a ≤ b → IsReady last a → IsReady last b
ready-higher None a b le h = tt
ready-higher (Some p) a b le h = (h.0, omega (arith, h.1, le))

-- a segment without bytes makes no difference to the pieces
skipped : (last : Option Loaded) (s : ImageSegment) (rest : List ImageSegment) → (length s.bytes == 0) ≡ true → pieces_after last (s ∷ rest) ≡ pieces_after last rest
skipped None s rest none = rw none refl
skipped (Some p) s rest none = rw none refl

-- the segments that are left are the current one and those after it
front : (segments : List ImageSegment) (i : ℕ) (s : ImageSegment) → i < length segments → s ≡ get_or segments i s → drop i segments ≡ s ∷ drop (i + 1) segments
front segments i s lt is = drop_more segments i s lt ∙ ap (λ x. x ∷ drop (i + 1) segments) (sym is)

-- if the segments that are left rise, `Rises` is true of the current one
here : (segments : List ImageSegment) (i from : ℕ) (s : ImageSegment) → i < length segments → s ≡ get_or segments i s → AreRising from (drop i segments)
    → Rises from s (drop (i + 1) segments)
here segments i from s lt is rising = rises from s (drop (i + 1) segments) (subst (AreRising from) (front segments i s lt is) rising)

pub add-requires-clause-last : goal.add-requires-clause-last
add-requires-clause-last c =
    let so_far = c.loop-segment.invariant.rising in
    let it = here c.args.segments.now c.loop-segment.segment-index so_far.0 c.segment-item.result c.loop-segment-test.true c.segment-item.is so_far.2 in
    ready-higher c.loop-segment.last so_far.0 c.segment-item.result.address it.above so_far.1

pub add-requires-clause-limit : goal.add-requires-clause-limit
add-requires-clause-limit c =
    let so_far = c.loop-segment.invariant.rising in
    (here c.args.segments.now c.loop-segment.segment-index so_far.0 c.segment-item.result c.loop-segment-test.true c.segment-item.is so_far.2).low

pub loop-segment-preserved : goal.loop-segment-preserved
loop-segment-preserved c =
    let segments = c.args.segments.now in
    let i = c.loop-segment.segment-index in
    let s : ImageSegment = c.segment-item.result in
    let rest = drop (i + 1) segments in
    let done = c.loop-segment.done.items in
    let so_far = c.loop-segment.invariant in
    let split = front segments i s c.loop-segment-test.true c.segment-item.is in
    let it = here segments i so_far.rising.0 s c.loop-segment-test.true c.segment-item.is so_far.rising.2 in
    let before = ap (λ l. done ++ map finished (pieces_after c.loop-segment.last l)) (sym split) ∙ so_far.pieces in
    elim c.if-len-ne0.branch [
      | then-len-ne0+in_ok-add w ↦
          rw (w.done-is, w.last-is) (record {
            pieces = w.in_ok-add.ensures.pieces rest ∙ before;
            rising = (s.address + length s.bytes, (w.in_ok-add.ensures.full, omega (arith, w.in_ok-add.ensures.ends)), it.others);
          })
      | else-len-ne0 w ↦
          let none = eq-eqb (length s.bytes) 0 (omega (arith, w.if-len-ne0.false, c.len.ensures.len, ap length c.memory.ensures)) in
          rw (w.done-is, w.last-is) (record {
            pieces = ap (λ l. done ++ map finished l) (sym (skipped c.loop-segment.last s rest none)) ∙ before;
            rising = (s.address + length s.bytes, ready-higher c.loop-segment.last so_far.rising.0 (s.address + length s.bytes) (omega (arith, it.above)) so_far.rising.1, it.others);
          })
    ]

pub returns : goal.returns
returns c =
    let segments = c.args.segments.now in
    let done = c.loop-segment.done.items in
    let all = drop_all c.loop-segment.segment-index segments (omega (arith, c.loop-segment-test.false)) in
    let before = ap (λ l. done ++ map finished (pieces_after c.loop-segment.last l)) (sym all) ∙ c.loop-segment.invariant.pieces in
    elim c.match-last.branch [
      | in-Some+in_ok-push w ↦ rw w.done-is (w.in_ok-push.ensures.items ∙ ap (λ (p : Loaded). done ++ p ∷ []) w.finish.ensures ∙ ap (λ l. done ++ map finished (pieces_after l [])) (sym w.in-Some.is) ∙ before)
      | in_default w ↦ rw w.done-is (sym (append-nil done) ∙ ap (λ l. done ++ map finished (pieces_after l [])) (sym w.in_default.is) ∙ before)
    ]
