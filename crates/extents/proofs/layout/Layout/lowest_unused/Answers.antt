use Rattle.std.proofs.Common.{◌≡◌, ◌<◌, length, get_or, refl, sym, ap, subst, ◌∙◌, arith}
use Rattle.std.proofs.lemmas.Bool.{eqb-true, eqb-false, true≢false}
use Rattle.extents.specs.Layout.{IsLowestUnused, unused_count}
use Rattle.extents.proofs.layout.Layout.lowest_unused.Goals as goal
use Rattle.extents.proofs.Edits.{nothing, read_at}
use Rattle.extents.proofs.Kept.{lowest_read, none_read}

pub returns-then-is_empty-clause-none : goal.returns-then-is_empty-clause-none
returns-then-is_empty-clause-none c =
    let none : length c.self.inside.runs.items ≡ 0 = omega (arith, eqb-true (length c.as_slice-runs.result.now) 0 (sym c.is_empty.ensures ∙ c.if-is_empty.true), ap length c.as_slice-runs.ensures) in
    (λ _. ap unused_count (sym c.self.view_is) ∙ none_read c.self.inside.sectors c.self.inside.runs.items none, λ _. refl)

pub returns-clause-none : goal.returns-clause-none
returns-clause-none c =
    let runs = c.self.inside.runs.items in
    let some : 0 < length runs = omega (arith, eqb-false (length c.as_slice-runs.result.now) 0 (sym c.is_empty.ensures ∙ c.if-is_empty.false), ap length c.as_slice-runs.ensures) in
    let run = get_or c.as_slice-runs.result.now 0 nothing in
    let counted = (lowest_read c.self.inside.sectors runs run c.self.invariant.apart some (read_at runs c.as_slice-runs.result.now 0 run c.as_slice-runs.ensures some)).1 in
    (λ is. absurd (true≢false is), λ is. absurd (omega (arith, counted, is, ap unused_count c.self.view_is)))

pub returns-clause-some : goal.returns-clause-some
returns-clause-some c =
    let runs = c.self.inside.runs.items in
    let some : 0 < length runs = omega (arith, eqb-false (length c.as_slice-runs.result.now) 0 (sym c.is_empty.ensures ∙ c.if-is_empty.false), ap length c.as_slice-runs.ensures) in
    let run = get_or c.as_slice-runs.result.now 0 nothing in
    subst (λ flags. IsLowestUnused flags run.start) c.self.view_is
    (lowest_read c.self.inside.sectors runs run c.self.invariant.apart some (read_at runs c.as_slice-runs.result.now 0 run c.as_slice-runs.ensures some)).0
