use Rattle.std.proofs.Common.{◌<◌, All, sym, subst, arith}
use Rattle.std.proofs.lemmas.Bool.Decides.{Decides-eqb}
use Rattle.std.proofs.lemmas.Map.Made.{IsDistinct-from_AllPairs}
use Rattle.snapshots.specs.inside.Places.{AreInside}
use Rattle.snapshots.proofs.snapshot.Snapshot.take.Goals as goal

pub invariant_of-result : goal.invariant_of-result
invariant_of-result g c =
    let positions = c.preloads.result.now in
    let size = c.in_ok-handles.ensures.ok.size in
    subst (AreInside c.in_ok-handles.handles.items) (sym (c.in_ok-preloads.ensures.items_if_clones_equal (λ x y is. is))) (record {
      few = omega (arith, size, c.count-count.ensures.value, c.count-count.ensures.few);
      inside = subst (λ n. All (λ p. p < n) positions) (sym size) c.preloads.ensures.inside;
      once = IsDistinct-from_AllPairs Decides-eqb positions c.preloads.ensures.once;
    })
