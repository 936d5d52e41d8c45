use Rattle.std.proofs.Common.{◌≢◌, ◌+◌, ◌<◌, length, ◌∙◌, arith, below_more, subst, sym, ap, ◌%◌}
use Rattle.std.proofs.lemmas.List.{get_or-set_same, get_or-set_other}
use Rattle.sector_disk.proofs.choices.choose.Goals as goal

pub loop-at-preserved : goal.loop-at-preserved
loop-at-preserved g c =
    let at = c.loop-at.at in
    let counts = c.loop-at.counts in
    let was = c.loop-at.invariant.1 at (omega arith) in
    let in_range : at < length counts = omega arith in (
      below_more _ _
          (λ k lt. let named = c.loop-at.invariant.0 k lt in let other : k ≢ at = omega arith in (named.0, named.1, get_or-set_other counts at k _ 0 other ∙ named.2))
          (c.pick.result, subst (λ n. goal.F-post g c.args.pick at (n + 1) c.pick.result) was c.pick.ensures, get_or-set_same counts at _ 0 in_range ∙ ap (λ n. c.pick.result % (n + 1)) was),
      λ k le. let other : k ≢ at = omega arith in get_or-set_other counts at k _ 0 other ∙ c.loop-at.invariant.1 k (omega arith),
    )

pub returns : goal.returns
returns g c at lt = c.loop-at.invariant.0 at (omega arith)

pub pick-requires : goal.pick-requires
pick-requires g c =
    let at = c.loop-at.at in
    subst (λ n. goal.F-pre g c.args.pick at (n + 1)) (sym (c.loop-at.invariant.1 at (omega arith))) (c.requires.callable at (omega arith))
