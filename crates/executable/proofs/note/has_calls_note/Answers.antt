use Rattle.std.proofs.Common.{ℕ, ◌+◌, ◌-◌, ◌<◌, List, length, ap, sym, ◌∙◌, arith}
use Rattle.executable.specs.Note.{has_calls_note}
use Rattle.executable.proofs.Notes.{found, ended, next}
use Rattle.executable.proofs.note.has_calls_note.Goals as goal

pub loop-preserved : goal.loop-preserved
loop-preserved c =
    let n = length c.args.notes.now in
    let less : c.loop.counter < n = omega (arith, c.loop-test.true, c.len-end.ensures.len) in
    ap (λ (bs : List ℕ). has_calls_note (n - (c.loop.counter + 1)) bs) c.in-Some.ensures.1
    ∙ next n c.loop.counter c.loop.rest less (sym c.if-is_calls_note.ensures) c.in-Some.ensures.0 ∙ c.loop.invariant

pub returns-then-is_calls_note : goal.returns-then-is_calls_note
returns-then-is_calls_note c =
    let n = length c.args.notes.now in
    let less : c.loop.counter < n = omega (arith, c.loop-test.true, c.len-end.ensures.len) in
    sym (found n c.loop.counter c.loop.rest less (sym c.if-is_calls_note.ensures)) ∙ c.loop.invariant

pub returns-in_default : goal.returns-in_default
returns-in_default c =
    let n = length c.args.notes.now in
    let less : c.loop.counter < n = omega (arith, c.loop-test.true, c.len-end.ensures.len) in
    sym (ended n c.loop.counter c.loop.rest less (sym c.if-is_calls_note.ensures) c.in_default.ensures) ∙ c.loop.invariant
