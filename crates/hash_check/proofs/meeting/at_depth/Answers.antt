use Rattle.std.proofs.Common.{◌∙◌, arith, sym, inl, inr}
use Rattle.hash_check.proofs.Walks.{walk-zero}
use Rattle.hash_check.proofs.Climbing.{Step, step-either, arrived}
use Rattle.hash_check.proofs.meeting.at_depth.Goals as goal
use Rattle.hash_check.proofs.meeting.at_depth.Goals.{then-place-depth, else-place-depth}

pub loop-place-init : goal.loop-place-init
loop-place-init c = record {
  within = c.requires.within;
  place = c.known_place-place.ensures;
  climbs = record { on = λ d h. (0, sym (walk-zero c.args.chains.now c.args.from), omega arith) };
}

pub known_place-place-requires-in-loop-place : goal.known_place-place-requires-in-loop-place
known_place-place-requires-in-loop-place c =
    let s : Step c.args.chains.now c.args.places.now c.args.from c.args.depth c.loop-place.place c.if-place-depth.at =
    step-either c.args.chains.now c.args.places.now c.args.from c.args.depth c.loop-place.at c.loop-place.place c.if-place-depth.at
    c.requires.words c.loop-place.invariant.within c.requires.sound c.requires.size c.loop-place.invariant.place c.loop-place.invariant.climbs
    c.loop-place-test.true
    (elim c.if-place-depth.branch [ then-place-depth w ↦ inl (w.if-place-depth.true, w.at-is) | else-place-depth w ↦ inr (w.at-is ∙ w.next-at.ensures) ]) in
    record { within = omega (arith, s.within, c.requires.size); known = s.known }

pub loop-place-smaller : goal.loop-place-smaller
loop-place-smaller c =
    let s : Step c.args.chains.now c.args.places.now c.args.from c.args.depth c.loop-place.place c.if-place-depth.at =
    step-either c.args.chains.now c.args.places.now c.args.from c.args.depth c.loop-place.at c.loop-place.place c.if-place-depth.at
    c.requires.words c.loop-place.invariant.within c.requires.sound c.requires.size c.loop-place.invariant.place c.loop-place.invariant.climbs
    c.loop-place-test.true
    (elim c.if-place-depth.branch [ then-place-depth w ↦ inl (w.if-place-depth.true, w.at-is) | else-place-depth w ↦ inr (w.at-is ∙ w.next-at.ensures) ]) in
    s.falls c.known_place-place-in-loop-place.result c.known_place-place-in-loop-place.ensures

pub loop-place-preserved : goal.loop-place-preserved
loop-place-preserved c =
    let s : Step c.args.chains.now c.args.places.now c.args.from c.args.depth c.loop-place.place c.if-place-depth.at =
    step-either c.args.chains.now c.args.places.now c.args.from c.args.depth c.loop-place.at c.loop-place.place c.if-place-depth.at
    c.requires.words c.loop-place.invariant.within c.requires.sound c.requires.size c.loop-place.invariant.place c.loop-place.invariant.climbs
    c.loop-place-test.true
    (elim c.if-place-depth.branch [ then-place-depth w ↦ inl (w.if-place-depth.true, w.at-is) | else-place-depth w ↦ inr (w.at-is ∙ w.next-at.ensures) ]) in
    record { within = s.within; place = c.known_place-place-in-loop-place.ensures; climbs = s.climbs }

pub returns : goal.returns
returns c d h = arrived c.args.chains.now c.args.places.now c.args.from c.args.depth c.loop-place.at d c.loop-place.place c.requires.sound
    c.loop-place.invariant.place c.loop-place.invariant.climbs c.loop-place-test.false h
