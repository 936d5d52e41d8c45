use Rattle.std.proofs.Common.{◌≡◌, ℕ, List, None, ap, ◌∙◌, sym, subst}
use Rattle.std.specs.Prelude.{IfErr}
use Rattle.std.proofs.lemmas.Result.{err_from_is_err_and, MatchResult-weaker, on_ok_weaker}
use Rattle.hash_check.specs.FileRefusal.{first_file_refusal}
use Rattle.scope.specs.Objects.{Named, file_at}
use Rattle.image.specs.Placement.{place, is_good_base}
use Rattle.image.specs.Refusal.{placed_refusal, IsPlacedAnswer}
use Rattle.image.proofs.Answering.{program-taken, program-based, placed-is, order-answer, placed-answer, program-first}
use Rattle.image.proofs.program.bind_admitted.Goals as goal

pub returns-in_err-order-clause-refused : goal.returns-in_err-order-clause-refused
returns-in_err-order-clause-refused c =
    let file : List ℕ = c.args.program.now in
    let base = c.args.base in
    let p = err_from_is_err_and c.from_residual.result c.from_residual.ensures.1 in
    rw (p.1, p.2)
    (order-answer file base c.args.libraries.now c.args.preloads.now c.in_err-order.field-0.0 (program-taken file base c.requires.program)
    (program-based file base c.requires.program) c.in_err-order.ensures.refused)

pub bind-requires : goal.bind-requires
bind-requires c =
    let file : List ℕ = c.args.program.now in
    let base = c.args.base in
    ap (λ f. is_good_base f base) (ap (λ (os : List Named). file_at os 0) c.in_ok-order.ensures.ok ∙ program-first file c.args.libraries.now c.args.preloads.now)
    ∙ program-based file base c.requires.program

pub returns-clause-accepted : goal.returns-clause-accepted
returns-clause-accepted c =
    let file : List ℕ = c.args.program.now in
    let base = c.args.base in
    let libraries : List Named = c.args.libraries.now in
    let preloads : List ℕ = c.args.preloads.now in
    on_ok_weaker c.bind.result
    (λ (h : placed_refusal (place base c.in_ok-order.order) ≡ None).
    placed-is file base libraries preloads (program-taken file base c.requires.program) (program-based file base c.requires.program) c.in_ok-order.ensures.found
    ∙ ap (λ (os : List Named). placed_refusal (place base os)) (sym c.in_ok-order.ensures.ok) ∙ h)
    c.bind.ensures.accepted

pub returns-clause-refused : goal.returns-clause-refused
returns-clause-refused c =
    let file : List ℕ = c.args.program.now in
    let base = c.args.base in
    let libraries : List Named = c.args.libraries.now in
    let preloads : List ℕ = c.args.preloads.now in
    let taken : first_file_refusal file ≡ None = program-taken file base c.requires.program in
    MatchResult-weaker c.bind.result
    (subst (λ (os : List Named). IfErr c.bind.result (IsPlacedAnswer (place base os))) c.in_ok-order.ensures.ok c.bind.ensures.refused)
    (λ x h. h) (λ e h. placed-answer file base libraries preloads e taken (placed-is file base libraries preloads taken (program-based file base c.requires.program) c.in_ok-order.ensures.found) h)

pub load_order-requires-clause-preloads : goal.load_order-requires-clause-preloads
load_order-requires-clause-preloads c = c.requires.preloads
