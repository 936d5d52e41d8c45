use Rattle.std.proofs.Common.{◌≡◌, ◌<◌, ◌+◌, ◌++◌, ℕ, List, length, take, drop, arith, subst, sym, ap, ◌∙◌, below_more, get_or}
use Rattle.std.specs.Prelude.{Option}
use Rattle.std.proofs.lemmas.List.{take_at}
use Rattle.hash_check.specs.inside.Places.{Known, Sound, Keeps}
use Rattle.hash_check.specs.declared.place.Place.{Place}
use Rattle.hash_check.proofs.Starting.{first-size, first-zero, first-sound, all-at}
use Rattle.hash_check.proofs.table.follow_all.Goals as goal

pub loop-i-init : goal.loop-i-init
loop-i-init c =
    let n : ℕ = c.count.result in
    let some : 0 < n = omega (arith, c.count.ensures, c.requires.some) in
    let is = c.in_ok-places.ensures in
    record {
      size = ap length is ∙ first-size n ∙ c.count.ensures;
      zero = subst (λ ps. Known ps 0) (sym is) (first-zero n some);
      sound = subst (Sound c.args.chains.now) (sym is) (first-sound c.args.chains.now n some);
      path = c.new-path.ensures.items;
      known = λ k lt. absurd (omega arith);
    }

pub loop-i-preserved : goal.loop-i-preserved
loop-i-preserved c =
    let new : List (Option Place) = c.follow.new.places in
    let old : List (Option Place) = c.loop-i.places.items in
    let value = c.deref_mut.ensures.value in
    let size : length new ≡ length c.args.chains.now = c.follow.ensures.size ∙ ap length value ∙ c.loop-i.invariant.size in
    let whole : length new ≡ c.loop-i.places.len = omega (arith, size, c.loop-i.invariant.size, c.loop-i.places.ok.0) in
    let same : new ≡ take c.loop-i.places.len (new ++ drop (length new) old) = sym (take_at new (drop (length new) old) c.loop-i.places.len whole) in
    let keeps : Keeps old new = subst (λ ps. Keeps ps new) value c.follow.ensures.keeps in
    let word : Known new c.word.result = rw c.if-not-branch.false at c.in_ok-follow.ensures.ends in
    let here : Known new (get_or c.args.buckets.now c.loop-i.i 0) = subst (Known new) c.word.ensures word in
    let more : (k : ℕ) → k < c.loop-i.i + 1 → Known new (get_or c.args.buckets.now k 0) =
    below_more (λ k. Known new (get_or c.args.buckets.now k 0)) c.loop-i.i (λ k lt. keeps.known (get_or c.args.buckets.now k 0) (c.loop-i.invariant.known k lt)) here in
    record {
      size = ap length (sym same) ∙ size;
      zero = subst (λ ps. Known ps 0) same (keeps.known 0 c.loop-i.invariant.zero);
      sound = subst (Sound c.args.chains.now) same c.follow.ensures.sound;
      path = c.in_ok-follow.ensures.path c.if-not-branch.false;
      known = λ k lt. subst (λ ps. Known ps (get_or c.args.buckets.now k 0)) same (more k lt);
    }

pub returns : goal.returns
returns c = record {
  size = c.loop-i.invariant.size;
  sound = c.loop-i.invariant.sound;
  known = all-at (Known c.loop-i.places.items) c.args.buckets.now (λ k lt. c.loop-i.invariant.known k (omega arith));
}
