use Rattle.std.proofs.Common.{◌<◌, ℕ, arith, sym, subst, ◌∙◌}
use Rattle.std.specs.Prelude.{slice_index}
use Rattle.hash_check.specs.Walk.{Meets}
use Rattle.hash_check.specs.inside.Places.{Known}
use Rattle.hash_check.proofs.Joining.{meets-self, meets-next, next-known, next-nearer, steps_left}
use Rattle.hash_check.proofs.joint.joint_of_two.Goals as goal

pub loop-at-init : goal.loop-at-init
loop-at-init c = record {
  within = c.requires.within;
  known = c.requires.known;
  met = λ some. meets-self c.args.chains.now c.args.from some;
}

pub loop-at-smaller : goal.loop-at-smaller
loop-at-smaller c =
    subst (λ i. steps_left c.args.places.now i < steps_left c.args.places.now c.loop-at.at) (sym c.next-at.ensures)
    (next-nearer c.args.chains.now c.args.places.now c.loop-at.at c.requires.sound c.loop-at.invariant.known c.loop-at-test.true)

pub loop-at-preserved : goal.loop-at-preserved
loop-at-preserved c =
    let next : ℕ = slice_index c.args.chains.now c.loop-at.at in
    let known : Known c.args.places.now next = next-known c.args.chains.now c.args.places.now c.loop-at.at c.requires.sound c.loop-at.invariant.known c.loop-at-test.true in
    record {
      within = omega (arith, c.next-at.ensures, c.requires.words c.loop-at.at 0 c.loop-at.invariant.within);
      known = subst (Known c.args.places.now) (sym c.next-at.ensures) known;
      met = λ some. subst (Meets c.args.chains.now c.args.from) (sym c.next-at.ensures)
          (meets-next c.args.chains.now c.args.from c.loop-at.at (c.loop-at.invariant.met c.loop-at-test.true) (λ z. some (c.next-at.ensures ∙ z)));
    }

pub returns-then-is_met-clause-met_other : goal.returns-then-is_met-clause-met_other
returns-then-is_met-clause-met_other c some = c.is_met.ensures.0 c.if-is_met.true

pub returns-clause-met : goal.returns-clause-met
returns-clause-met c some = absurd (some c.loop-at-test.false)

pub returns-clause-met_other : goal.returns-clause-met_other
returns-clause-met_other c some = absurd (some c.loop-at-test.false)
