use Rattle.std.proofs.Common.{◌≡◌, ◌<◌, ◌+◌, ◌∙◌, ◌++◌, ◌∷◌, [], false, take, ap, sym, refl, subst, arith}
use Rattle.std.proofs.Math.ListN.{get_or}
use Rattle.std.specs.Prelude.{AllPairs}
use Rattle.std.proofs.lemmas.Bool.{false≢true}
use Rattle.std.proofs.lemmas.List.{get_or-take, length-take-le, take_all, take_more}
use Rattle.std.proofs.lemmas.List.Quantifiers.{all_pairs_push}
use Rattle.plain_registry.proofs.numbers.differ.Goals as goal

pub loop-i-preserved : goal.loop-i-preserved
loop-i-preserved g c =
    let values = c.args.values.now in
    let i = c.loop-i.i in
    let value = c.index-values-i.result in
    let differ : g.row.T.Denot → g.row.T.Denot → Type 0 = λ a b. g.T.PartialEq.eq a b ≡ false in
    let more : take (i + 1) values ≡ take i values ++ value ∷ [] =
    take_more values i value c.loop-i-test.true ∙ ap (λ x. take i values ++ x ∷ []) (sym c.index-values-i.is)
    in
    subst (AllPairs differ) (sym more)
    (all_pairs_push differ (take i values) value c.loop-i.invariant (λ k d below. c.if-contains.ensures.cases k d (omega arith) below))

pub returns-then-contains : goal.returns-then-contains
returns-then-contains g c =
    let values = c.args.values.now in
    let i = c.loop-i.i in
    let value = c.index-values-i.result in
    let same = c.if-contains.ensures.cases in
    let k = same.0 in
    let before : k < i = omega (arith, same.1, length-take-le i values c.loop-i.auto.i-end) in (
      λ e. absurd (false≢true e),
      λ differ.
          sym (differ k i value before c.loop-i-test.true)
          ∙ ap (λ a. g.T.PartialEq.eq a (get_or values i value)) (sym (get_or-take i values k value before))
          ∙ ap (g.T.PartialEq.eq (get_or (take i values) k value)) (sym c.index-values-i.is)
          ∙ same.2 value,
    )

pub returns : goal.returns
returns g c =
    let differ : g.row.T.Denot → g.row.T.Denot → Type 0 = λ a b. g.T.PartialEq.eq a b ≡ false in
    (λ e. subst (AllPairs differ) (take_all c.loop-i.i c.args.values.now c.loop-i-test.false) c.loop-i.invariant, λ h. refl)
