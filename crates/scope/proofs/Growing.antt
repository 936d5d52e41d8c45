-- The list that results if places are added unless they are in it.
use Rattle.std.proofs.Common.{◌≡◌, ℕ, ◌≤◌, eqb, Bool, true, false, not, cond, ◌&&◌, ◌||◌, List, [], ◌∷◌, ◌++◌, length, filter, fold, take, sym, ap}
use Rattle.std.proofs.Common.{◌∙◌, refl, append_assoc, append-nil, if◌then◌else◌, arith, length-append}
use Rattle.std.proofs.lemmas.Bool.{eqb-true}
use Rattle.std.proofs.lemmas.List.{take-append-le}
use Rattle.std.proofs.lemmas.List.Folds.{list_any-append}
use Rattle.std.proofs.lemmas.List.Sums.{fold-append}
use Rattle.scope.specs.Levels.{is_among, first_occurrences, without}
use Rattle.scope.specs.Queue.{grown_by}
use Rattle.scope.specs.inside.Growing.{grown}

pick : (f : ℕ → Bool) (x : ℕ) (xs : List ℕ) (b : Bool) → filter f (cond b (x ∷ xs) xs) ≡ cond (b && f x) (x ∷ filter f xs) (filter f xs)
pick f x xs true = refl
pick f x xs false = refl

-- filtering with two tests, one after the other, is filtering with the test that both pass
filtered : (f g h : ℕ → Bool) → ((x : ℕ) → h x ≡ (g x && f x)) → (xs : List ℕ) → filter f (filter g xs) ≡ filter h xs
filtered f g h same [] = refl
filtered f g h same (x ∷ xs) =
    pick f x (filter g xs) (g x)
    ∙ ap (λ l. cond (g x && f x) (x ∷ l) l) (filtered f g h same xs)
    ∙ ap (λ b. cond b (x ∷ filter h xs) (filter h xs)) (sym (same x))

passed : (ps : List ℕ) (q : ℕ) → is_among ps q ≡ true → (r : ℕ) → not (is_among ps r) ≡ (not (eqb r q) && not (is_among ps r))
passed ps q there r = by (eqb r q) refl
  where
    by : (b : Bool) → eqb r q ≡ b → not (is_among ps r) ≡ (not b && not (is_among ps r))
    by true e = ap (λ x. not (is_among ps x)) (eqb-true r q e) ∙ ap not there
    by false e = refl

nor : (a e : Bool) → not (a || (e || false)) ≡ (not e && not a)
nor true true = refl
nor true false = refl
nor false true = refl
nor false false = refl

added : (ps : List ℕ) (q r : ℕ) → not (is_among (ps ++ q ∷ []) r) ≡ (not (eqb r q) && not (is_among ps r))
added ps q r = ap not (list_any-append (λ x. eqb r x) ps (q ∷ [])) ∙ nor (is_among ps r) (eqb r q)

-- a list grows by the first occurrences of the places that it doesn't have
pub grown_is : (ps qs : List ℕ) → grown ps qs ≡ ps ++ without ps (first_occurrences qs)
unfolding grown
grown_is ps [] = sym (append-nil ps)
grown_is ps (q ∷ qs) = by (is_among ps q) refl (λ l. grown_is l qs)
  where
    rest : List ℕ
    rest = without ps (filter (λ r. not (eqb r q)) (first_occurrences qs))

    by : (b : Bool) → is_among ps q ≡ b → ((l : List ℕ) → grown l qs ≡ l ++ without l (first_occurrences qs)) → fold grown_by (if b then ps else ps ++ q ∷ []) qs ≡ ps ++ cond (not b) (q ∷ rest) rest
    by true e more =
        more ps
        ∙ ap (λ l. ps ++ l) (sym (filtered (λ r. not (is_among ps r)) (λ r. not (eqb r q)) (λ r. not (is_among ps r)) (passed ps q e) (first_occurrences qs)))
    by false e more =
        more (ps ++ q ∷ [])
        ∙ append_assoc ps (q ∷ []) (without (ps ++ q ∷ []) (first_occurrences qs))
        ∙ ap (λ l. ps ++ q ∷ l) (sym (filtered (λ r. not (is_among ps r)) (λ r. not (eqb r q)) (λ r. not (is_among (ps ++ q ∷ []) r)) (added ps q) (first_occurrences qs)))

-- the list after no place, one place, and the places of two lists were added
pub grown-nil : (ps : List ℕ) → grown ps [] ≡ ps
unfolding grown
grown-nil ps = refl

pub grown-push : (ps qs : List ℕ) (q : ℕ) → grown ps (qs ++ q ∷ []) ≡ grown_by (grown ps qs) q
unfolding grown
grown-push ps qs q = fold-append grown_by ps qs (q ∷ [])

pub grown-append : (ps qs rs : List ℕ) → grown ps (qs ++ rs) ≡ grown (grown ps qs) rs
unfolding grown
grown-append ps qs rs = fold-append grown_by ps qs rs

-- the first elements of the list stay as they are
pub grown-take : (n : ℕ) (ps qs : List ℕ) → n ≤ length ps → take n (grown ps qs) ≡ take n ps
grown-take n ps qs le = ap (take n) (grown_is ps qs) ∙ take-append-le n ps (without ps (first_occurrences qs)) le

-- the list never becomes shorter
pub grown-longer : (ps qs : List ℕ) → length ps ≤ length (grown ps qs)
grown-longer ps qs = omega (arith, ap length (grown_is ps qs), length-append ps (without ps (first_occurrences qs)))
