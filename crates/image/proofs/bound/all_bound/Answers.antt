use Rattle.std.proofs.Common.{◌<◌, ◌+◌, List, length, [], ◌∷◌, ap, ◌∙◌, sym, refl, subst, arith}
use Rattle.std.proofs.lemmas.List.{length-append}
use Rattle.std.proofs.lemmas.Result.{err_from_is_err_and}
use Rattle.image.specs.Bound.{Bound, FirstBound, IsBound}
use Rattle.image.specs.Placement.{Placed}
use Rattle.image.specs.Refusal.{undefined_in, undefined_refusal}
use Rattle.image.proofs.Keeping.{first-more}
use Rattle.image.proofs.Undefined.{object-passed, object-found, no-object, refused-by}
use Rattle.image.proofs.bound.all_bound.Goals as goal

pub loop-own-init : goal.loop-own-init
unfolding undefined_refusal
loop-own-init c =
    record {
      counted = ap length c.in_ok-bound.ensures.items;
      room = omega (arith, c.in_ok-bound.ensures.capacity, c.count-count.ensures.count);
      each = λ k d h. absurd (omega (arith, h, ap length c.in_ok-bound.ensures.items));
      first = refl;
    }

pub loop-own-preserved : goal.loop-own-preserved
loop-own-preserved c =
    let objects : List Placed = c.args.objects.now in
    let own = c.loop-own.own in
    let within : own < length objects = omega (arith, c.count-count.ensures.count) in
    let before : List Bound = c.loop-own.bound.items in
    let b : Bound = c.in_ok-object.object in
    record {
      counted = ap length c.push_reserved.ensures.items ∙ length-append before (b ∷ []) ∙ ap (λ n. n + 1) c.loop-own.invariant.counted;
      room = omega (arith, c.push_reserved.ensures.capacity, c.loop-own.invariant.room);
      each = subst (FirstBound objects) (sym c.push_reserved.ensures.items)
          (first-more objects before b c.loop-own.invariant.each (subst (λ n. IsBound objects n b) (sym c.loop-own.invariant.counted) c.in_ok-object.ensures.bound));
      first = object-passed (undefined_in objects) (length objects) own within c.in_ok-object.ensures.ok ∙ c.loop-own.invariant.first;
    }

pub returns-in_err-object-clause-refused : goal.returns-in_err-object-clause-refused
returns-in_err-object-clause-refused c =
    let objects : List Placed = c.args.objects.now in
    let own = c.loop-own.own in
    let within : own < length objects = omega (arith, c.count-count.ensures.count) in
    let e = c.in_err-object.field-0.0 in
    let p = err_from_is_err_and c.from_residual-in_err-object.result c.from_residual-in_err-object.ensures.1 in
    rw (p.1, p.2)
    (refused-by (undefined_refusal objects) (undefined_in objects own) e
    (λ is. sym c.loop-own.invariant.first ∙ object-found (undefined_in objects) (length objects) own e within is) c.in_err-object.ensures.refused)

pub returns-clause-ok : goal.returns-clause-ok
returns-clause-ok c =
    let objects : List Placed = c.args.objects.now in
    sym c.loop-own.invariant.first ∙ no-object (undefined_in objects) (length objects) c.loop-own.own (omega (arith, c.count-count.ensures.count))

pub returns-clause-bound : goal.returns-clause-bound
returns-clause-bound c =
    record {
      counted = omega (arith, c.loop-own.invariant.counted, c.count-count.ensures.count);
      each = c.loop-own.invariant.each;
      stacked = c.count-count.ensures.stacked;
      accepted = c.count-count.ensures.accepted;
    }
