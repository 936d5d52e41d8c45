use Rattle.std.proofs.Common.{◌≡◌, List, Some, None, ap, ◌∙◌, sym, subst, inl, inr, Option}
use Rattle.std.specs.Prelude.{IfOk, IfErr, OnOk}
use Rattle.std.proofs.lemmas.Result.{err_from_is_err_and, MatchResult-weaker}
use Rattle.image.specs.Bound.{AreBound}
use Rattle.image.specs.Placement.{Placed, place}
use Rattle.image.specs.Refusal.{placed_refusal, undefined_refusal, IsFirstOrWantsMemory}
use Rattle.image.specs.declared.refusal.BindRefusal.{BindRefusal}
use Rattle.image.proofs.Undefined.{placed-room, placed-left, placed-wants, some-fits}
use Rattle.image.proofs.bound.bound_objects.Goals as goal

pub returns-in_err-objects-clause-refused : goal.returns-in_err-objects-clause-refused
returns-in_err-objects-clause-refused c =
    let objects = place c.args.base c.args.order.now in
    let p = err_from_is_err_and c.from_residual.result c.from_residual.ensures.1 in
    rw (p.1, p.2)
    (elim c.in_err-objects.ensures.refused [
      | inl h ↦ inl (placed-room objects h.1 ∙ ap (λ (e : BindRefusal). Some e) (sym h.0))
      | inr h ↦ inr h
    ])

pub returns-clause-accepted : goal.returns-clause-accepted
returns-clause-accepted c =
    let objects = place c.args.base c.args.order.now in
    let refusal : undefined_refusal c.in_ok-objects.objects ≡ placed_refusal objects = ap undefined_refusal c.in_ok-objects.ensures.ok ∙ sym (placed-left objects c.in_ok-objects.ensures.room) in
    subst (λ (o : Option BindRefusal). OnOk c.all_bound.result (o ≡ None)) refusal c.all_bound.ensures.ok

pub returns-clause-refused : goal.returns-clause-refused
returns-clause-refused c =
    let objects = place c.args.base c.args.order.now in
    let refusal : undefined_refusal c.in_ok-objects.objects ≡ placed_refusal objects = ap undefined_refusal c.in_ok-objects.ensures.ok ∙ sym (placed-left objects c.in_ok-objects.ensures.room) in
    MatchResult-weaker c.all_bound.result (subst (λ (o : Option BindRefusal). IfErr c.all_bound.result (IsFirstOrWantsMemory o)) refusal c.all_bound.ensures.refused)
    (λ x h. h) (λ e h. placed-wants objects e (some-fits objects c.in_ok-objects.ensures.room) h)

pub returns-clause-bound : goal.returns-clause-bound
returns-clause-bound c =
    subst (λ (ps : List Placed). IfOk c.all_bound.result (λ all. AreBound ps all.items)) c.in_ok-objects.ensures.ok c.all_bound.ensures.bound
