use Rattle.std.proofs.Common.{◌≡◌, ◌+◌, ◌<◌, ◌++◌, [], ◌∷◌, List, ℕ, length, drop, ap, ◌∙◌, sym, subst, arith, append_assoc, append-nil}
use Rattle.std.proofs.lemmas.Result.{err_from_is_err_and}
use Rattle.scope.specs.Objects.{file_at}
use Rattle.image.specs.Constant.{MEMORY_LIMIT}
use Rattle.image.specs.Placement.{Placed, reach, unit, place_after, lacks_room}
use Rattle.std.specs.Int.{next_multiple_of}
use Rattle.image.proofs.Bases.{bases_of, order-some, init-bases, init-room, first-fits, step-bases, step-room, step-full, none-behind}
use Rattle.image.proofs.placement.fitting_bases.Goals as goal

pub loop-i-init : goal.loop-i-init
loop-i-init c =
    let os = c.args.order.now in
    let base = c.args.base in
    let end = c.in-Some.end in
    let some = order-some os c.count-count.ensures.order in
    let same : c.object-2.result.now ≡ file_at os 0 = c.object-2.ensures.same ∙ c.object.ensures.file in
    let is : end ≡ base + reach (file_at os 0) = c.in-Some.ensures.0 ∙ ap (λ f. base + reach f) same in
    let items : c.push_reserved.new.self.items ≡ base ∷ [] = c.push_reserved.ensures.items ∙ ap (λ (l : List ℕ). l ++ base ∷ []) c.in_ok-bases.ensures.items in
    record {
      low = c.in-Some.ensures.1;
      len = omega (arith, c.push_reserved.ensures.len, c.in_ok-bases.ensures.len);
      space = omega (arith, c.push_reserved.ensures.capacity, c.in_ok-bases.ensures.capacity, c.count-count.ensures.count);
      bases = init-bases base end os some is ∙ ap (λ (l : List ℕ). l ++ bases_of (place_after end (drop 1 os))) (sym items);
      room = init-room base end os some is c.in-Some.ensures.1;
    }

pub loop-i-preserved : goal.loop-i-preserved
loop-i-preserved c =
    let os = c.args.order.now in
    let i = c.loop-i.i in
    let end = c.loop-i.end in
    let next = c.in-Some-place_behind.next in
    let new = c.in-Some-place_behind.next_end in
    let t = c.in-Some-place_behind.ensures in
    let file = c.object-in-loop-i-2.result.now in
    let same : file ≡ file_at os i = c.object-in-loop-i-2.ensures.same ∙ c.object-in-loop-i.ensures.file in
    let within : i < length os = omega (arith, c.count-count.ensures.count) in
    let at : next ≡ next_multiple_of end (unit (file_at os i)) = t.0 ∙ ap (λ f. next_multiple_of end (unit f)) same in
    let is : new ≡ next + reach (file_at os i) = t.1 ∙ ap (λ f. next + reach f) same in
    let old : List ℕ = c.loop-i.bases.items in
    record {
      low = t.2;
      len = omega (arith, c.push_reserved-in-loop-i.ensures.len, c.loop-i.invariant.len);
      space = omega (arith, c.push_reserved-in-loop-i.ensures.capacity, c.loop-i.invariant.space);
      bases =
          c.loop-i.invariant.bases ∙ ap (λ (l : List ℕ). old ++ l) (step-bases end next new i os within at is)
          ∙ sym (append_assoc old (next ∷ []) (bases_of (place_after new (drop (i + 1) os))))
          ∙ ap (λ (l : List ℕ). l ++ bases_of (place_after new (drop (i + 1) os))) (sym c.push_reserved-in-loop-i.ensures.items);
      room = c.loop-i.invariant.room ∙ step-room end next new i os within at is t.2;
    }

pub returns-clause-ok : goal.returns-clause-ok
returns-clause-ok c =
    let os = c.args.order.now in
    let old : List ℕ = c.loop-i.bases.items in
    let none = none-behind c.loop-i.end c.loop-i.i os (omega (arith, c.count-count.ensures.count)) in (
      sym (c.loop-i.invariant.bases ∙ ap (λ (ps : List Placed). old ++ bases_of ps) none ∙ append-nil old),
      c.loop-i.invariant.room ∙ ap lacks_room none,
    )

pub returns-in_default-place_behind-clause-ok : goal.returns-in_default-place_behind-clause-ok
returns-in_default-place_behind-clause-ok c =
    let os = c.args.order.now in
    let i = c.loop-i.i in
    let same : c.object-in-loop-i-2.result.now ≡ file_at os i = c.object-in-loop-i-2.ensures.same ∙ c.object-in-loop-i.ensures.file in
    let high : MEMORY_LIMIT < next_multiple_of c.loop-i.end (unit (file_at os i)) + reach (file_at os i) =
    subst (λ f. MEMORY_LIMIT < next_multiple_of c.loop-i.end (unit f) + reach f) same c.in_default-place_behind.ensures in
    c.loop-i.invariant.room ∙ step-full c.loop-i.end i os (omega (arith, c.count-count.ensures.count)) high

pub returns-in_err-bases-clause-memory : goal.returns-in_err-bases-clause-memory
returns-in_err-bases-clause-memory c =
    let os = c.args.order.now in
    let same : c.object-2.result.now ≡ file_at os 0 = c.object-2.ensures.same ∙ c.object.ensures.file in
    let is : c.in-Some.end ≡ c.args.base + reach (file_at os 0) = c.in-Some.ensures.0 ∙ ap (λ f. c.args.base + reach f) same in
    let p = err_from_is_err_and c.from_residual.result c.from_residual.ensures.1 in
    rw p.1 (first-fits c.args.base c.in-Some.end os (order-some os c.count-count.ensures.order) is c.in-Some.ensures.1)
