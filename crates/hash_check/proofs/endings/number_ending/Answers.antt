use Rattle.std.proofs.Common.{◌≡◌, ◌<◌, ◌∙◌, ℕ, List, length, reverse, set, ap, rules, arith, inl, inr}
use Rattle.std.proofs.lemmas.Bool.{cases_lt}
use Rattle.hash_check.specs.Numbers.{nth_text}
use Rattle.hash_check.specs.inside.Endings.{AreHeld}
use Rattle.hash_check.proofs.Holding.{held-on, back-length, room-for, text-read, told-here, told-still}
use Rattle.hash_check.proofs.endings.number_ending.Goals as goal
use Rattle.hash_check.proofs.endings.number_ending.Goals.{After-bytes-length}

-- the bytes that are read are those of name number `number`
text : (c : After-bytes-length) → c.bytes-length.result.now ≡ nth_text c.args.names.now c.loop-number.number
text c =
    text-read c.args.names.now c.args.ending c.loop-number.number c.bytes-length.result.now c.index-names-number.result c.requires.ending
    c.loop-number-test.true c.bytes-length.ensures c.index-names-number.is

-- the list of marks has an element for the length of the name
room : (c : After-bytes-length) → length c.bytes-length.result.now < length c.loop-number.marks
room c =
    room-for c.args.names.now c.args.ending c.loop-number.number (length c.loop-number.marks) c.bytes-length.result.now
    c.requires.ending (c.loop-number.auto.number, c.loop-number-test.true) (text c) (omega (arith, c.requires.room, c.loop-number.auto.marks))

pub bounds-marks-length : goal.bounds-marks-length
bounds-marks-length c =
    let fits = room (goal.at.bounds-marks-length c).After-bytes-length in
    search rules

pub offset_bounds-marks-length : goal.offset_bounds-marks-length
offset_bounds-marks-length c =
    let fits = room (goal.at.offset_bounds-marks-length c).After-bytes-length in
    search rules

pub bounds-marks-length-in-loop-number : goal.bounds-marks-length-in-loop-number
bounds-marks-length-in-loop-number c =
    let fits = room (goal.at.bounds-marks-length-in-loop-number c).After-bytes-length in
    search rules

pub offset_bounds-marks-length-in-loop-number : goal.offset_bounds-marks-length-in-loop-number
offset_bounds-marks-length-in-loop-number c =
    let fits = room (goal.at.offset_bounds-marks-length-in-loop-number c).After-bytes-length in
    search rules

pub loop-number-preserved : goal.loop-number-preserved
loop-number-preserved c =
    let names : List (List ℕ) = c.args.names.now in
    let k : ℕ = c.loop-number.number in
    let n : ℕ = length c.bytes-length.result.now in
    let told : ℕ = c.picked-told.result in
    let read = text (goal.at.loop-number-preserved c).After-bytes-length in
    let fits = room (goal.at.loop-number-preserved c).After-bytes-length in
    let lt : c.loop-number.number < length c.args.names.now = omega (arith, c.loop-number-test.true, c.requires.ending.within) in
    let there : c.loop-number.number < length c.loop-number.numbers = omega (arith, lt, c.loop-number.invariant.held.size) in
    let on : AreHeld c.args.names.now (reverse c.args.ending.string.now)
    (set c.loop-number.marks (length c.bytes-length.result.now) c.picked-told.result)
    (set c.loop-number.numbers c.loop-number.number c.picked-told.result) =
    held-on names (reverse c.args.ending.string.now) c.loop-number.marks c.loop-number.numbers k n told c.loop-number.invariant.held lt (ap length read ∙ back-length names c.loop-number.number) fits
    (c.requires.ending.tails c.loop-number.number (c.loop-number.auto.number, c.loop-number-test.true)) c.picked-told.ensures.own c.picked-told.ensures.marked in
    record {
      held = on;
      kept = λ j some. told-still c.loop-number.marks c.loop-number.numbers k n told j there c.picked-told.ensures.own c.picked-told.ensures.marked (c.loop-number.invariant.kept j some);
      told = λ j low high. elim (cases_lt j c.loop-number.number) [
        | inl early ↦ told-still c.loop-number.marks c.loop-number.numbers k n told j there c.picked-told.ensures.own c.picked-told.ensures.marked (c.loop-number.invariant.told j low early)
        | inr late ↦ told-here c.loop-number.marks c.loop-number.numbers k n told j there c.picked-told.ensures.own c.picked-told.ensures.marked (omega (arith, late, high))
      ];
    }
