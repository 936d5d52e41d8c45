use Rattle.std.proofs.Common.{◌≡◌, ◌∙◌, ◌+◌, ℕ, List, [], false, reverse, get_or, ap, sym, subst, arith, inl, inr, refl}
use Rattle.std.specs.Cmp.Lexicographic.{slice_cmp}
use Rattle.std.specs.Ordering.{nat_cmp, is_lt}
use Rattle.std.proofs.lemmas.Bool.{cases_lt}
use Rattle.std.proofs.lemmas.List.{get_or_default}
use Rattle.hash_check.specs.inside.Endings.{IsIn, string_back}
use Rattle.hash_check.specs.declared.endings.Ending.{Ending}
use Rattle.hash_check.proofs.Backs.{front-before}
use Rattle.hash_check.proofs.Holding.{held-none, held-next, numbers-from-held}
use Rattle.hash_check.proofs.endings.number_all.Goals as goal

abbrev none : Ending
none = record { string = record { ref_ptr = (0, 0); now = [] }; first = 0; past = 0 }

pub loop-ending-init : goal.loop-ending-init
loop-ending-init c = record {
  past = refl;
  held = held-none c.args.names.now c.args.marks.now c.args.numbers.now c.requires.size c.requires.marks c.requires.numbers;
  told = λ k p d lt is. absurd (omega (arith, lt));
  next = λ d lt. front-before 0 (string_back (get_or c.args.endings.now 0 d));
}

pub number_ending-requires-clause-held : goal.number_ending-requires-clause-held
number_ending-requires-clause-held c =
    held-next c.args.names.now c.loop-ending.last.now (get_or c.args.endings.now c.loop-ending.ending-index none).string.now c.loop-ending.marks c.unmark.new.marks c.loop-ending.numbers
    c.common_end-common.result c.loop-ending.past c.loop-ending.invariant.past c.loop-ending.invariant.held
    (c.loop-ending.invariant.next none c.loop-ending-test.true) c.common_end-common.ensures.second
    c.common_end-common.ensures.agree c.common_end-common.ensures.most c.unmark.ensures.low c.unmark.ensures.cleared c.unmark.ensures.high

pub loop-ending-preserved : goal.loop-ending-preserved
loop-ending-preserved c =
    let endings : List Ending = c.args.endings.now in
    let i : ℕ = c.loop-ending.ending-index in
    record {
      past = refl;
      held = c.number_ending.ensures.held;
      told = λ k p d lt is. elim (cases_lt p c.loop-ending.ending-index) [
        | inl early ↦ c.number_ending.ensures.kept k (c.loop-ending.invariant.told k p d early is)
        | inr late ↦
            let at : p ≡ c.loop-ending.ending-index = omega (arith, lt, late) in
            c.number_ending.ensures.told k (subst (IsIn k) (ap (λ q. get_or endings q d) at ∙ get_or_default endings i d none c.loop-ending-test.true) is)
      ];
      next = λ d lt.
          subst (λ (e : Ending). is_lt (slice_cmp nat_cmp (string_back (get_or c.args.endings.now (c.loop-ending.ending-index + 1) d)) (string_back e)) ≡ false)
          (get_or_default endings i d none c.loop-ending-test.true) (c.requires.endings.sorted i d (omega arith) lt);
    }

pub returns : goal.returns
returns c =
    numbers-from-held c.args.names.now (reverse c.loop-ending.last.now) c.loop-ending.marks c.loop-ending.numbers c.loop-ending.invariant.held
    (λ k lt. let a = c.requires.endings.are.all k lt in c.loop-ending.invariant.told k a.0 a.1 (omega (arith, a.2, c.loop-ending-test.false)) (subst (IsIn k) (sym a.3) a.4))
