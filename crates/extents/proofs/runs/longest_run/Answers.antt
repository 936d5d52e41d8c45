use Rattle.std.proofs.Common.{◌≡◌, ◌+◌, ◌∷◌, drop, get_or, sym, ap, ◌∙◌, arith}
use Rattle.std.proofs.lemmas.List.{at_drop_more, drop_all}
use Rattle.extents.specs.Longest.{longest_first}
use Rattle.extents.proofs.Edits.{nothing}
use Rattle.extents.proofs.runs.longest_run.Goals as goal
use Rattle.extents.proofs.Sorting.{longest_by, longest_by-end, longest_by-more, longest_by-first}

pub loop-run-preserved : goal.loop-run-preserved
loop-run-preserved c =
    let loop = c.loop-run in
    let rest = c.in-Some.rest.now in
    let run = get_or rest loop.run-index nothing in
    let later = drop (loop.run-index + 1) rest in
    ap (λ l. longest_by l later) c.longer-longest.ensures
    ∙ longest_by-more loop.longest run later
    ∙ sym (at_drop_more (longest_by loop.longest) rest loop.run-index nothing c.loop-run-test.true)
    ∙ loop.invariant

pub returns : goal.returns
returns c =
    let loop = c.loop-run in
    let first = c.in-Some.first.now in
    let rest = c.in-Some.rest.now in
    let is : longest_by first rest ≡ loop.longest =
    sym loop.invariant ∙ ap (longest_by loop.longest) (drop_all loop.run-index rest (omega arith)) ∙ longest_by-end loop.longest in
    let found = longest_by-first first rest in
    (found.0, ap longest_first c.in-Some.ensures.cases.0 ∙ found.1 ∙ ap (λ l. l ∷ found.0) is)
