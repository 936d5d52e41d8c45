use Rattle.std.proofs.Common.{IsTrue, get_or, sym, subst, ap, ◌∙◌, arith, take, drop, ◌+◌, ◌*◌, ◌≤◌}
use Rattle.extents.specs.declared.extent.Extent.{Extent}
use Rattle.extents.specs.Extent.{sector_count}
use Rattle.passes.specs.Bytes.{padded}
use Rattle.passes.proofs.Padding.{padded-take}
use Rattle.passes.proofs.Runs.{take-min, drop-min}
use Rattle.passes.proofs.Files.{more_extent_leaves, more_extent_others, more_extent_rest, more_extent_holds}
use Rattle.passes.proofs.Rows.{then_in_row, so_far_in_row, stop_in_row}
use Rattle.passes.proofs.Extents.{count_more, count_within}
use Rattle.passes.proofs.write.write_bytes.Goals as goal

abbrev none : Extent
none = record { start = 0; count = 0 }

pub returns-in_err-write_run-clause-any_moment : goal.returns-in_err-write_run-clause-any_moment
returns-in_err-write_run-clause-any_moment g c honest =
    let so_far = c.loop-extent.invariant in
    more_extent_leaves so_far none c.loop-extent-test.true honest (c.write_run.ensures.any_moment (subst IsTrue (sym so_far.calls.honest) honest))

pub returns-in_err-write_run-clause-calls : goal.returns-in_err-write_run-clause-calls
returns-in_err-write_run-clause-calls g c =
    let so_far = c.loop-extent.invariant in
    let i = c.loop-extent.extent-index in
    let within : sector_count (take i c.args.extents.now) + (get_or c.args.extents.now i none).count ≤ sector_count c.args.extents.now =
    omega (arith, count_more c.args.extents.now i none c.loop-extent-test.true, count_within c.args.extents.now (i + 1)) in
    stop_in_row c.from_residual.result (then_in_row so_far.calls c.in_err-write_run.ensures.calls) within c.from_residual.ensures.0

pub loop-extent-preserved : goal.loop-extent-preserved
loop-extent-preserved g c =
    let so_far = c.loop-extent.invariant in
    let calls = c.in_ok-write_run.ensures.calls in
    let honest_at = λ (honest : IsTrue (g.D.Disk.facts c.args.disk.now).honest). subst IsTrue (sym so_far.calls.honest) honest in
    let rest = c.loop-extent.rest.now in
    let e = get_or c.args.extents.now c.loop-extent.extent-index none in
    let at_size = c.min.ensures in
    let content = ap (padded (512 * e.count)) (c.split_at.ensures.front ∙ ap (λ n. take n rest) at_size ∙ take-min (512 * e.count) rest)
    ∙ padded-take (512 * e.count) (512 * e.count) rest (omega arith) in
    record {
      calls = so_far_in_row (count_more c.args.extents.now c.loop-extent.extent-index none c.loop-extent-test.true) so_far.calls calls;
      rest_is = c.split_at.ensures.back ∙ ap (λ n. drop n rest) at_size ∙ drop-min (512 * e.count) rest ∙ more_extent_rest so_far none c.loop-extent-test.true;
      leaves = λ honest. more_extent_leaves so_far none c.loop-extent-test.true honest (c.write_run.ensures.any_moment (honest_at honest));
      others = λ honest. more_extent_others so_far none c.loop-extent-test.true honest (c.in_ok-write_run.ensures.now (honest_at honest));
      holds = λ honest. more_extent_holds so_far none c.loop-extent-test.true c.requires.apart honest
          (c.in_ok-write_run.ensures.now (honest_at honest)) (c.in_ok-write_run.ensures.written (honest_at honest) ∙ content);
    }
