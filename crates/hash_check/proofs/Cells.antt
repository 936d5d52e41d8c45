-- The result of a search in a table of names, and how the table is filled.
use Rattle.std.proofs.Common.{◌≡◌, ◌≢◌, ℕ, List, arith, ◌∙◌, sym, ap, inl, inr, get_or, set, subst}
use Rattle.std.proofs.lemmas.Bool.{cases_lt}
use Rattle.std.proofs.lemmas.List.{get_or-set_other}
use Rattle.hash_check.specs.inside.NameTable.{IsOther, HoldOthers, Reaches}

module _ (text : ℕ → List ℕ) (cells name : List ℕ) (from : ℕ) where
  -- a search finds a name at only one place
  pub one-place : (at place : ℕ) → Reaches text cells name from at → Reaches text cells name from place → place ≡ at
  one-place at place a b = elim (cases_lt place at) [
    | inl less ↦ absurd ((a.others place b.behind less).differs b.same)
    | inr more ↦ elim (cases_lt at place) [
      | inl less ↦ absurd ((b.others at a.behind less).differs a.same)
      | inr le ↦ omega arith
    ]
  ]

  others-on : (at end m : ℕ) → get_or cells at 0 ≡ 0 → HoldOthers text cells name from end → HoldOthers text (set cells at m) name from end
  others-on at end m empty others k low lt =
      let old = others k low lt in
      let other : k ≢ at = λ one. old.taken (ap (λ j. get_or cells j 0) one ∙ empty) in
      subst (IsOther text name) (sym (get_or-set_other cells at k m 0 other)) old
