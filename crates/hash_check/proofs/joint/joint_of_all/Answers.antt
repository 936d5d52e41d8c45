use Rattle.std.proofs.Common.{◌≡◌, ◌<◌, ℕ, length, arith, sym, ap, subst, ◌∙◌, get_or, below_more}
use Rattle.hash_check.specs.Walk.{Meets}
use Rattle.hash_check.specs.inside.Places.{Known}
use Rattle.hash_check.proofs.Starting.{all-at}
use Rattle.hash_check.proofs.Joining.{meets-self, meets-some, meets-through}
use Rattle.hash_check.proofs.joint.joint_of_all.Goals as goal

pub loop-i-init : goal.loop-i-init
loop-i-init c =
    let first : ℕ = get_or c.args.buckets.now 0 0 in
    let some : 0 < length c.args.buckets.now = omega (arith, c.requires.some) in
    let is : c.word-joint.result ≡ first = c.word-joint.ensures in
    record {
      within = omega (arith, is, c.requires.buckets 0 0 some);
      known = subst (Known c.args.places.now) (sym is) (c.requires.places.known 0 0 some);
      met = λ other k lt.
          let none : k ≡ 0 = omega arith in
          subst (λ from. Meets c.args.chains.now from c.word-joint.result) (is ∙ ap (λ j. get_or c.args.buckets.now j 0) (sym none)) (meets-self c.args.chains.now c.word-joint.result other);
    }

pub loop-i-preserved : goal.loop-i-preserved
loop-i-preserved c = record {
  within = c.joint_of_two-joint.ensures.within;
  known = c.joint_of_two-joint.ensures.known;
  met = λ some.
      let joint : Meets c.args.chains.now c.loop-i.joint c.joint_of_two-joint.result = c.joint_of_two-joint.ensures.met some in
      below_more (λ k. Meets c.args.chains.now (get_or c.args.buckets.now k 0) c.joint_of_two-joint.result) c.loop-i.i
      (λ k lt. meets-through c.args.chains.now (get_or c.args.buckets.now k 0) c.loop-i.joint c.joint_of_two-joint.result
      (c.loop-i.invariant.met (meets-some c.args.chains.now c.loop-i.joint c.joint_of_two-joint.result joint) k lt) joint)
      (subst (λ from. Meets c.args.chains.now from c.joint_of_two-joint.result) c.word.ensures (c.joint_of_two-joint.ensures.met_other some));
}

pub returns : goal.returns
returns c = record {
  within = c.loop-i.invariant.within;
  known = c.loop-i.invariant.known;
  met = λ some. all-at (λ b. Meets c.args.chains.now b c.loop-i.joint) c.args.buckets.now (λ k lt. c.loop-i.invariant.met some k (omega arith));
}
