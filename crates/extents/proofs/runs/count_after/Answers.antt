use Rattle.std.proofs.Common.{◌<◌, length, ap, ◌∙◌, arith}
use Rattle.std.proofs.lemmas.List.{get_or_default}
use Rattle.extents.proofs.runs.count_after.Goals as goal
use Rattle.extents.proofs.Edits.{nothing}

pub returns-then-run-sector-clause-some : goal.returns-then-run-sector-clause-some
returns-then-run-sector-clause-some c = λ some.
    let runs = c.args.runs.now in
    let place = c.args.place in
    let lt : place < length runs = omega arith in (
      lt,
      λ d. let is = get_or_default runs place d nothing lt in (ap (λ run. run.count) is, ap (λ run. run.start) is ∙ c.if-run-sector.true),
    )
