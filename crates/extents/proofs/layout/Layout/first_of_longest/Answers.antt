use Rattle.std.proofs.Common.{◌≡◌, ◌<◌, ◌∷◌, take, sym, ap, subst, ◌∙◌, arith}
use Rattle.std.proofs.lemmas.Bool.{true≢false}
use Rattle.extents.specs.Extent.{sector_count}
use Rattle.extents.specs.Longest.{longest_first, longest_runs}
use Rattle.extents.specs.Taken.{first_sectors}
use Rattle.extents.proofs.Front.{first_sectors-front, front_enough}
use Rattle.extents.proofs.UnusedFlags.{unused_runs-flags_of}
use Rattle.extents.proofs.layout.Layout.first_of_longest.Goals as goal
use Rattle.extents.proofs.layout.Layout.first_of_longest.Goals.{After-front_of}

-- the run is the first of the longest ones
first_is : (c : After-front_of) → longest_runs c.args.self.now ≡ c.in-Some.run' ∷ take 31 c.in-Some.ensures.0
first_is c =
    sym (ap (λ runs. take 32 (longest_first runs)) (c.as_slice.ensures ∙ sym (unused_runs-flags_of c.self.inside.sectors c.self.inside.runs.items c.self.invariant.apart))
    ∙ ap longest_runs c.self.view_is)
    ∙ ap (take 32) c.in-Some.ensures.1

pub returns-in-Some-clause-some : goal.returns-in-Some-clause-some
returns-in-Some-clause-some c =
    let is = first_is (goal.at.returns-in-Some-clause-some c).After-front_of in
    let run = c.in-Some.run' in
    let others = take 31 c.in-Some.ensures.0 in
    c.front_of.ensures
    ∙ sym (first_sectors-front c.args.need run others (omega arith) (omega (arith, c.if-need-run.true)))
    ∙ ap (first_sectors c.args.need) (sym is)

pub returns-in-Some-clause-none : goal.returns-in-Some-clause-none
returns-in-Some-clause-none c =
    let is = first_is (goal.at.returns-in-Some-clause-none c).After-front_of in
    let run = c.in-Some.run' in
    let others = take 31 c.in-Some.ensures.0 in (
      λ wrong. absurd (true≢false wrong),
      λ few. absurd (front_enough c.args.need run others (omega (arith, c.if-need-run.true)) (subst (λ l. sector_count l < c.args.need) is few)),
    )
