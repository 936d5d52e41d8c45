use Rattle.std.proofs.Common.{IsTrue, sym, subst, ap, ◌∙◌, arith, take, drop, ◌+◌}
use Rattle.passes.specs.Bytes.{padded}
use Rattle.passes.proofs.Padding.{padded-take}
use Rattle.passes.proofs.Runs.{Progress, run_leaves, more, take-min, drop-min}
use Rattle.passes.proofs.Rows.{CallsSoFar, one_in_row, then_in_row, so_far_in_row, stop_in_row}
use Rattle.passes.proofs.run.write_run.Goals as goal

pub returns-in_err-write_sector-clause-any_moment : goal.returns-in_err-write_sector-clause-any_moment
returns-in_err-write_sector-clause-any_moment g c honest =
    let so_far = c.loop-done.invariant in
    let honest_now = subst IsTrue (sym so_far.calls.honest) honest in
    run_leaves so_far c.loop-done-test.true c.write_sector.ensures.calls honest (g.met.D.Disk.holds_now _ honest_now) (c.write_sector.ensures.honest honest_now)

pub returns-in_err-write_sector-clause-calls : goal.returns-in_err-write_sector-clause-calls
returns-in_err-write_sector-clause-calls g c =
    let so_far = c.loop-done.invariant in
    stop_in_row c.from_residual.result (then_in_row so_far.calls (one_in_row c.in_err-write_sector.ensures.calls)) (omega (arith, c.loop-done-test.true)) c.from_residual.ensures.0

pub loop-done-preserved : goal.loop-done-preserved
loop-done-preserved g c =
    let so_far = c.loop-done.invariant in
    let honest_at = λ (honest : IsTrue (g.D.Disk.facts c.args.disk.now).honest). subst IsTrue (sym so_far.calls.honest) honest in
    let rest = c.loop-done.rest.now in
    let after = c.split_at.ensures.back ∙ ap (λ n. drop n rest) c.min.ensures ∙ drop-min 512 rest in
    let content = ap (padded 512) (c.split_at.ensures.front ∙ ap (λ n. take n rest) c.min.ensures ∙ take-min 512 rest) ∙ padded-take 512 512 rest (omega arith) in
    let calls : CallsSoFar (c.loop-done.done + 1) (g.D.Disk.facts c.args.disk.now) (g.D.Disk.facts c.write_sector.new.disk) =
    so_far_in_row (omega arith) so_far.calls (one_in_row c.in_ok-write_sector.ensures.calls) in
    subst (λ l. Progress (g.D.Disk.facts c.args.disk.now) (g.D.Disk.facts c.write_sector.new.disk) c.args.extent (c.loop-done.done + 1) c.args.bytes.now l) (sym after)
    (more so_far c.loop-done-test.true c.write_sector.ensures.calls content c.requires.room
    (λ honest. g.met.D.Disk.holds_now _ (honest_at honest))
    (λ honest. c.write_sector.ensures.honest (honest_at honest))
    calls
    (λ honest. (c.in_ok-write_sector.ensures.honest (honest_at honest)).ok))
