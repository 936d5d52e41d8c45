use Rattle.std.proofs.Common.{◌≡◌, ◌<◌, List, length, sym, ◌∙◌, subst, arith}
use Rattle.image.specs.Bound.{Bound, IsBound}
use Rattle.image.specs.Image.{MemoryImage}
use Rattle.image.specs.Placement.{Placed, place}
use Rattle.image.specs.inside.Bound.{IsFilled}
use Rattle.image.proofs.Bases.{file-placed, length-placed}
use Rattle.image.proofs.Filled.{filled-all, filled-more, filled-none, next-above, next-fits}
use Rattle.image.proofs.binding.bind.Goals as goal

pub loop-i-init : goal.loop-i-init
loop-i-init c =
    let objects : List Placed = place c.args.base c.args.order.now in
    subst (λ (m : MemoryImage). IsFilled objects 0 m) (sym c.empty-image.ensures) (filled-none objects)

pub index-requires : goal.index-requires
index-requires c =
    let are = c.in_ok-objects.ensures.bound in
    omega (arith, are.counted, length-placed c.args.base c.args.order.now, c.count-i-end.ensures.count, c.in_ok-objects.objects.ok.0)

pub with-requires-clause-fits : goal.with-requires-clause-fits
with-requires-clause-fits c =
    let objects : List Placed = place c.args.base c.args.order.now in
    let all : List Bound = c.in_ok-objects.objects.items in
    let are = c.in_ok-objects.ensures.bound in
    let i = c.loop-i.i in
    let b : Bound = c.index.result.now in
    let inside : i < length objects = omega (arith, length-placed c.args.base c.args.order.now, c.count-i-end.ensures.count) in
    let among : i < length all = omega (arith, are.counted, inside) in
    let bound : IsBound objects i b = subst (IsBound objects i) (sym c.index.ensures) (are.each i b among) in
    let same = c.object-in-loop-i.ensures.same ∙ c.object.ensures.file ∙ sym (file-placed c.args.base c.args.order.now i) in
    next-fits objects i b c.object-in-loop-i.result.now inside are.stacked bound same

pub with-requires-clause-above : goal.with-requires-clause-above
with-requires-clause-above c =
    let objects : List Placed = place c.args.base c.args.order.now in
    let all : List Bound = c.in_ok-objects.objects.items in
    let are = c.in_ok-objects.ensures.bound in
    let i = c.loop-i.i in
    let b : Bound = c.index.result.now in
    let inside : i < length objects = omega (arith, length-placed c.args.base c.args.order.now, c.count-i-end.ensures.count) in
    let among : i < length all = omega (arith, are.counted, inside) in
    let bound : IsBound objects i b = subst (IsBound objects i) (sym c.index.ensures) (are.each i b among) in
    let same = c.object-in-loop-i.ensures.same ∙ c.object.ensures.file ∙ sym (file-placed c.args.base c.args.order.now i) in
    next-above objects i b c.object-in-loop-i.result.now inside are.stacked bound same c.loop-i.image c.loop-i.invariant

pub loop-i-preserved : goal.loop-i-preserved
loop-i-preserved c =
    let objects : List Placed = place c.args.base c.args.order.now in
    let all : List Bound = c.in_ok-objects.objects.items in
    let are = c.in_ok-objects.ensures.bound in
    let i = c.loop-i.i in
    let b : Bound = c.index.result.now in
    let inside : i < length objects = omega (arith, length-placed c.args.base c.args.order.now, c.count-i-end.ensures.count) in
    let among : i < length all = omega (arith, are.counted, inside) in
    let bound : IsBound objects i b = subst (IsBound objects i) (sym c.index.ensures) (are.each i b among) in
    let same = c.object-in-loop-i.ensures.same ∙ c.object.ensures.file ∙ sym (file-placed c.args.base c.args.order.now i) in
    let e = c.in_ok-image.ensures in
    filled-more objects i b c.object-in-loop-i.result.now inside are.stacked bound same c.loop-i.image c.in_ok-image.image c.loop-i.invariant e.objects e.headings e.bytes

pub returns-clause-ok : goal.returns-clause-ok
returns-clause-ok c =
    let objects : List Placed = place c.args.base c.args.order.now in
    let are = c.in_ok-objects.ensures.bound in
    let count : c.loop-i.i ≡ length objects = omega (arith, length-placed c.args.base c.args.order.now, c.count-i-end.ensures.count) in
    (filled-all objects c.loop-i.image c.loop-i.i count are.stacked are.accepted c.loop-i.invariant).0

pub returns-clause-bytes : goal.returns-clause-bytes
returns-clause-bytes c =
    let objects : List Placed = place c.args.base c.args.order.now in
    let are = c.in_ok-objects.ensures.bound in
    let count : c.loop-i.i ≡ length objects = omega (arith, length-placed c.args.base c.args.order.now, c.count-i-end.ensures.count) in
    (filled-all objects c.loop-i.image c.loop-i.i count are.stacked are.accepted c.loop-i.invariant).1
