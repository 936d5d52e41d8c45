use Rattle.std.proofs.Common.{◌<◌, ◌≤◌, ◌-◌, ◌^◌, ◌∙◌, ap, length, min, arith}
use Rattle.c_answers.proofs.Findings.{names_more, row}
use Rattle.c_answers.proofs.Rows.{rows_all}
use Rattle.c_answers.proofs.check.names_bytes.Goals as goal

pub loop-position-preserved : goal.loop-position-preserved
loop-position-preserved g c s at =
    let i = c.loop-position.position in
    let lt : i < length s.libraries = omega (arith, c.loop-position-test.true, c.count-position-end.ensures.state s at) in
    omega (arith, c.loop-position.invariant s at, c.saturating_add.ensures, c.saturating_add-bytes.ensures, ap length (c.name.ensures.state s at), names_more s.libraries i lt)

pub returns : goal.returns
returns g c s at =
    let all : length s.libraries ≤ c.loop-position.position = omega (arith, c.loop-position-test.false, c.count-position-end.ensures.state s at) in
    c.loop-position.invariant s at ∙ ap (λ l. min (length l) (2 ^ 64 - 1)) (rows_all row s.libraries c.loop-position.position all)
