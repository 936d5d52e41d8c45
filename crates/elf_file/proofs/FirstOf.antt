-- Lists of tests: if there is no first refusal, no test applies; and the first refusal of two lists.
use Rattle.std.proofs.Common.{◌≡◌, ℕ, Bool, true, false, List, [], ◌∷◌, ◌++◌, refl, sym, ◌∙◌, get_or, suc, zero, Option, Some, None}
use Rattle.elf_file.specs.FirstOf.{◌when◌, first_of}

-- if there is no first refusal, no test in the list refuses
pub none_at : {R : Type 0} (tests : List (Option R)) (k : ℕ) → first_of tests ≡ None → get_or tests k None ≡ None
none_at [] k h = refl
none_at (Some r ∷ tests) k h = cc
none_at (None ∷ tests) zero h = refl
none_at (None ∷ tests) (suc k) h = none_at tests k h

-- if a test doesn't refuse, it doesn't apply
pub when_none : {R : Type 0} (refusal : R) (test : Bool) → (refusal when test) ≡ None → test ≡ false
when_none refusal true h = cc
when_none refusal false h = refl

-- if a test of the first list refuses, its refusal is that of both lists
pub of_first : {R : Type 0} (first others : List (Option R)) (refusal : R) → first_of first ≡ Some refusal → first_of (first ++ others) ≡ Some refusal
of_first [] others refusal h = cc
of_first (None ∷ first) others refusal h = of_first first others refusal h
of_first (Some r ∷ first) others refusal h = h

-- if no test of the first list refuses, the refusal of both lists is that of the second list
pub of_others : {R : Type 0} (first others : List (Option R)) → first_of first ≡ None → first_of (first ++ others) ≡ first_of others
of_others [] others h = refl
of_others (None ∷ first) others h = of_others first others h
of_others (Some r ∷ first) others h = cc

-- if no test of both lists refuses, none of the first list does
pub none_first : {R : Type 0} (first others : List (Option R)) → first_of (first ++ others) ≡ None → first_of first ≡ None
none_first [] others h = refl
none_first (None ∷ first) others h = none_first first others h
none_first (Some r ∷ first) others h = cc

-- if no test of both lists refuses, none of the second list does
pub none_behind : {R : Type 0} (first others : List (Option R)) → first_of (first ++ others) ≡ None → first_of others ≡ None
none_behind first others h = sym (of_others first others (none_first first others h)) ∙ h
