use Rattle.std.proofs.Common.{◌≡◌, ◌+◌, ◌<◌, leb, length, get_or, sym, ap, subst, arith}
use Rattle.std.specs.Bool.{OnTrue, OnFalse}
use Rattle.extents.specs.Layout.{IsInside, Overlaps, AllUnused}
use Rattle.extents.specs.inside.Kept.{IsRising, flags_of}
use Rattle.extents.proofs.layout.Layout.is_unused.Goals as goal
use Rattle.extents.proofs.layout.Layout.is_unused.Goals.{After-place_of-place}
use Rattle.extents.specs.declared.extent.Extent.{Extent}
use Rattle.extents.proofs.AtPlace.{IsPlace, apart_rise}
use Rattle.extents.proofs.Edits.{nothing, read_at}
use Rattle.extents.proofs.UnusedFlags.{length-flags_of}
use Rattle.extents.proofs.Kept.{overlaps_behind_all, tested_before, tested_after, run_fits}

pub place_of-place-requires : goal.place_of-place-requires
place_of-place-requires c = subst IsRising (sym c.as_slice-runs.ensures) (apart_rise 2 c.self.inside.sectors c.self.inside.runs.items c.self.invariant.apart)

place : (c : After-place_of-place) → IsPlace c.self.inside.runs.items c.args.extent.start c.place_of-place.result
place c = let found = c.place_of-place.ensures in subst (λ runs. IsPlace runs c.args.extent.start c.place_of-place.result) c.as_slice-runs.ensures (found.within, found.before, found.behind)

inside : (c : After-place_of-place) → IsInside (flags_of c.self.inside.sectors c.self.inside.runs.items) c.args.extent
inside c = subst (λ flags. IsInside flags c.args.extent) (sym c.self.view_is) c.requires

-- the run that is read, if there is one
abbrev run_at : After-place_of-place → Extent
run_at c = get_or c.as_slice-runs.result.now c.place_of-place.result nothing

read : (c : After-place_of-place) → c.place_of-place.result < length c.self.inside.runs.items → run_at c ≡ get_or c.self.inside.runs.items c.place_of-place.result (run_at c)
read c lt = read_at c.self.inside.runs.items c.as_slice-runs.result.now c.place_of-place.result (run_at c) c.as_slice-runs.ensures lt

pub returns-then-place-runs-clause-overlap : goal.returns-then-place-runs-clause-overlap
returns-then-place-runs-clause-overlap c =
    let after = (goal.at.returns-then-place-runs-clause-overlap c).After-place_of-place in
    subst (λ flags. Overlaps flags c.args.extent) c.self.view_is
    (overlaps_behind_all c.self.inside.sectors c.place_of-place.result c.self.inside.runs.items c.args.extent
    (inside after) (place after)
    (omega (arith, c.if-place-runs.true, ap length c.as_slice-runs.ensures)))

pub overflow_add-result : goal.overflow_add-result
overflow_add-result c = omega (arith, (inside (goal.at.overflow_add-result c).After-place_of-place).2, length-flags_of c.self.inside.sectors c.self.inside.runs.items, c.self.invariant.fits)

pub overflow_add-result-then-run-extent : goal.overflow_add-result-then-run-extent
overflow_add-result-then-run-extent c =
    let after = (goal.at.overflow_add-result-then-run-extent c).After-place_of-place in
    let lt : c.place_of-place.result < length c.self.inside.runs.items = omega (arith, (place after).0, c.if-place-runs.false, ap length c.as_slice-runs.ensures) in
    omega (arith, run_fits c.self.inside.sectors c.place_of-place.result c.self.inside.runs.items (run_at after) c.self.invariant.apart lt (read after lt), c.self.invariant.fits)

pub returns-then-run-extent-clause-unused : goal.returns-then-run-extent-clause-unused
returns-then-run-extent-clause-unused c =
    let after = (goal.at.returns-then-run-extent-clause-unused c).After-place_of-place in
    let lt : c.place_of-place.result < length c.self.inside.runs.items = omega (arith, (place after).0, c.if-place-runs.false, ap length c.as_slice-runs.ensures) in
    subst (λ flags. OnTrue (leb (c.args.extent.start + c.args.extent.count) ((run_at after).start + (run_at after).count)) (AllUnused flags c.args.extent)) c.self.view_is
    (tested_after c.self.inside.sectors c.place_of-place.result c.self.inside.runs.items c.args.extent (run_at after) c.self.invariant.apart
    (inside after)
    (place after) lt (read after lt) c.if-run-extent.true).0

pub returns-then-run-extent-clause-overlap : goal.returns-then-run-extent-clause-overlap
returns-then-run-extent-clause-overlap c =
    let after = (goal.at.returns-then-run-extent-clause-overlap c).After-place_of-place in
    let lt : c.place_of-place.result < length c.self.inside.runs.items = omega (arith, (place after).0, c.if-place-runs.false, ap length c.as_slice-runs.ensures) in
    subst (λ flags. OnFalse (leb (c.args.extent.start + c.args.extent.count) ((run_at after).start + (run_at after).count)) (Overlaps flags c.args.extent)) c.self.view_is
    (tested_after c.self.inside.sectors c.place_of-place.result c.self.inside.runs.items c.args.extent (run_at after) c.self.invariant.apart
    (inside after)
    (place after) lt (read after lt) c.if-run-extent.true).1

pub returns-else-run-extent-clause-overlap : goal.returns-else-run-extent-clause-overlap
returns-else-run-extent-clause-overlap c =
    let after = (goal.at.returns-else-run-extent-clause-overlap c).After-place_of-place in
    let lt : c.place_of-place.result < length c.self.inside.runs.items = omega (arith, (place after).0, c.if-place-runs.false, ap length c.as_slice-runs.ensures) in
    subst (λ flags. OnFalse (leb (run_at after).start c.args.extent.start) (Overlaps flags c.args.extent)) c.self.view_is
    (tested_before c.self.inside.sectors c.place_of-place.result c.self.inside.runs.items c.args.extent (run_at after) c.self.invariant.apart
    (inside after)
    (place after) lt (read after lt))
