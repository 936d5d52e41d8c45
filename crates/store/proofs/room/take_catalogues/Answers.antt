use Rattle.std.proofs.Common.{true, ◌∷◌, [], length, sym, ap, subst, ◌∙◌, arith}
use Rattle.std.proofs.lemmas.List.{length-append}
use Rattle.extents.specs.Extent.{one_sector}
use Rattle.extents.specs.Layout.{IsLowestUnused, with_flag}
use Rattle.store.specs.Taken.{AreTaken}
use Rattle.store.specs.inside.Claimed.{IsClaimedBeside}
use Rattle.store.proofs.Claiming.{claims_more}
use Rattle.store.proofs.Claims.{claims_none}
use Rattle.store.proofs.Taking.{with_singles, singles_more, taken_more}
use Rattle.store.proofs.room.take_catalogues.Goals as goal

pub loop-place-init : goal.loop-place-init
loop-place-init c = record {
  taken = subst (AreTaken c.args.layout.now) (sym c.new-taken.ensures) tt;
  now = ap (λ l. with_singles l c.args.layout.now) (sym c.new-taken.ensures);
  claimed = subst (IsClaimedBeside c.args.layout.now c.args.layout.now) (sym c.new-taken.ensures) (claims_none c.args.layout.now);
  count = ap length c.new-taken.ensures;
  free = omega (arith, ap length c.new-taken.ensures);
}

pub take_single-at-requires : goal.take_single-at-requires
take_single-at-requires c = omega (arith, c.loop-place.invariant.free, c.loop-place.invariant.count, c.loop-place-test.true, c.requires.enough)

pub push-requires : goal.push-requires
push-requires c = omega (arith, c.loop-place.invariant.count, c.loop-place-test.true, c.requires.few)

pub loop-place-preserved : goal.loop-place-preserved
loop-place-preserved c =
    let old = c.args.layout.now in
    let so_far = c.loop-place.taken in
    let at = c.take_single-at.result in
    let new = c.take_single-at.new.layout in
    let pushed = c.push.ensures in
    let one = ap length pushed ∙ length-append so_far (at ∷ []) in
    record {
      taken = subst (AreTaken old) (sym pushed) (taken_more so_far at old c.loop-place.invariant.taken (subst (λ l. IsLowestUnused l at) c.loop-place.invariant.now c.take_single-at.ensures.lowest));
      now = c.take_single-at.ensures.now ∙ ap (with_flag true (one_sector at)) c.loop-place.invariant.now ∙ sym (singles_more so_far at old) ∙ ap (λ l. with_singles l old) (sym pushed);
      claimed = subst (IsClaimedBeside old new) (sym pushed) (claims_more old c.loop-place.layout new so_far (at ∷ []) c.loop-place.invariant.claimed c.take_single-at.ensures.claimed);
      count = omega (arith, one, c.loop-place.invariant.count);
      free = omega (arith, one, c.take_single-at.ensures.count, c.loop-place.invariant.free);
    }

pub returns-clause-taken : goal.returns-clause-taken
returns-clause-taken c = c.loop-place.invariant.taken

pub returns-clause-claimed : goal.returns-clause-claimed
returns-clause-claimed c = c.loop-place.invariant.claimed

pub returns-clause-count : goal.returns-clause-count
returns-clause-count c = omega (arith, c.loop-place.invariant.count, c.loop-place-test.false, c.loop-place.auto)
