-- Endings of names that come after other names.
use Rattle.std.proofs.Common.{◌≡◌, ℕ, ◌<◌, ◌≤◌, ◌+◌, ◌-◌, List, [], ◌++◌, length, map, take, reverse, arith, ◌∙◌, sym, ap, inl, inr, subst, get_or}
use Rattle.std.specs.List.{Any}
use Rattle.std.proofs.Math.ListN.{get_or-append}
use Rattle.std.proofs.lemmas.Bool.{cases_lt}
use Rattle.std.proofs.lemmas.List.{get_or-append-add, length-append, get_or-map, length-map}
use Rattle.std.proofs.lemmas.List.Elements.{All-append}
use Rattle.hash_check.specs.inside.Endings.{back, string_back, IsIn, IsEnding, AreEndings}
use Rattle.hash_check.specs.inside.Numbered.{behind}
use Rattle.hash_check.specs.declared.endings.Ending.{Ending}

module _ (names own : List (List ℕ)) where
  back-front : (k : ℕ) → k < length names → back (names ++ own) k ≡ back names k
  unfolding back
  back-front k lt = ap reverse (get_or-append names own [] k lt)

  back-behind : (m : ℕ) → back (names ++ own) (length names + m) ≡ back own m
  unfolding back
  back-behind m = ap reverse (get_or-append-add names own m [])

  ending-front : (e : Ending) → IsEnding names e → IsEnding (names ++ own) e
  ending-front e is = record {
    order = is.order;
    within = omega (arith, is.within, length-append names own);
    tails = λ k inside.
        let lt : k < length names = omega (arith, inside.1, is.within) in
        subst (λ b. take (length b) (string_back e) ≡ b) (sym (back-front k lt)) (is.tails k inside);
  }

  ending-behind : (e : Ending) → IsEnding own e → IsEnding (names ++ own) (behind (length names) e)
  unfolding behind
  ending-behind e is = record {
    order = omega (arith, is.order);
    within = omega (arith, is.within, length-append names own);
    tails = λ k inside.
        let low : e.first ≤ k - length names = omega (arith, inside.0) in
        let high : k - length names < e.past = omega (arith, inside.0, inside.1, is.order) in
        let at : length names + (k - length names) ≡ k = omega (arith, inside.0) in
        subst (λ b. take (length b) (string_back e) ≡ b) (sym (back-behind (k - length names)) ∙ ap (back (names ++ own)) at) (is.tails (k - length names) (low, high));
  }

  in-front : (k : ℕ) (old new : List Ending) → Any (IsIn k) old → Any (IsIn k) (old ++ new)
  in-front k old new a = (a.0, a.1, omega (arith, a.2, length-append old new), get_or-append old new a.1 a.0 a.2 ∙ a.3, a.4)

  in-behind : (m : ℕ) (old new : List Ending) → Any (IsIn m) new → Any (IsIn (length names + m)) (old ++ map (behind (length names)) new)
  unfolding behind
  in-behind m old new a =
      let e : Ending = behind (length names) a.1 in (
        length old + a.0,
        e,
        omega (arith, a.2, length-append old (map (behind (length names)) new), length-map new (behind (length names))),
        get_or-append-add old (map (behind (length names)) new) a.0 e ∙ get_or-map (behind (length names)) new a.0 a.1 e a.2 ∙ ap (behind (length names)) a.3,
        (omega (arith, a.4.0), omega (arith, a.4.1)),
      )

  pub endings-more : (old new : List Ending) → AreEndings names old → AreEndings own new → AreEndings (names ++ own) (old ++ map (behind (length names)) new)
  endings-more old new front rest = record {
    each = All-append (IsEnding (names ++ own)) old (map (behind (length names)) new) (λ k d lt. ending-front (get_or old k d) (front.each k d lt))
        (λ k d lt.
        let room : k < length new = omega (arith, lt, length-map new (behind (length names))) in
        let e : Ending = get_or new k d in
        subst (IsEnding (names ++ own)) (sym (get_or-map (behind (length names)) new k d d room)) (ending-behind (get_or new k d) (rest.each k d room)));
    all = λ k lt. elim (cases_lt k (length names)) [
      | inl early ↦ in-front k old (map (behind (length names)) new) (front.all k early)
      | inr late ↦
          let room : k - length names < length own = omega (arith, late, lt, length-append names own) in
          let at : length names + (k - length names) ≡ k = omega (arith, late) in
          subst (λ j. Any (IsIn j) (old ++ map (behind (length names)) new)) at (in-behind (k - length names) old new (rest.all (k - length names) room))
    ];
  }
