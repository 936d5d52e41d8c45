-- Lists with one more element.
use Rattle.std.proofs.Common.{◌≡◌, ⊎_elim, ℕ, zero, suc, ◌+◌, ◌-◌, ◌<◌, ◌≤◌, All, AllPairs, List, [], ◌∷◌, length, map, take, drop, get_or, arith, refl, sym, ap, subst, ◌∙◌}
use Rattle.std.specs.List.{insert}
use Rattle.std.proofs.lemmas.Bool.{cases_lt}
use Rattle.std.proofs.lemmas.List.Edits.{length-insert, get_or-insert_below, get_or-insert_at, get_or-insert_above}
use Rattle.std.proofs.lemmas.List.Elements.{All-append, All-cons, All-take, All-drop}

pub map_insert : {A B : Type 0} (f : A → B) (xs : List A) (place : ℕ) (y : A) → map f (insert xs place y) ≡ insert (map f xs) place (f y)
map_insert f [] zero y = refl
map_insert f [] (suc place) y = refl
map_insert f (x ∷ xs) zero y = refl
map_insert f (x ∷ xs) (suc place) y = ap (λ l. f x ∷ l) (map_insert f xs place y)

pub all_insert : {A : Type 0} (P : A → Type 0) (xs : List A) (place : ℕ) (y : A) → P y → All P xs → All P (insert xs place y)
all_insert P xs place y its all = All-append P (take place xs) (y ∷ drop place xs) (All-take P place xs all) (All-cons P y (drop place xs) its (All-drop P place xs all))

module _ {X : Type 0} (R : X → X → Type 0) (xs : List X) (i : ℕ) (y : X) where
  -- if `R` holds of two values, it holds of the two elements with these values
  pair : (j k : ℕ) (d a b : X) → get_or (insert xs i y) j d ≡ a → get_or (insert xs i y) k d ≡ b → R a b → R (get_or (insert xs i y) j d) (get_or (insert xs i y) k d)
  pair j k d a b first second holds = subst (λ v. R v (get_or (insert xs i y) k d)) (sym first) (subst (λ v. R a v) (sym second) holds)

  above : (k : ℕ) (d : X) → i ≤ length xs → i < k → get_or (insert xs i y) k d ≡ get_or xs (k - 1) d
  above k d le lt =
      let is : k - 1 + 1 ≡ k = omega (arith, lt) in
      ap (λ n. get_or (insert xs i y) n d) (sym is) ∙ get_or-insert_above xs i y d (k - 1) (omega (arith, lt)) le

  -- if an element is inserted between those that come before it and those that come after it, all pairs are still in
  -- order
  pub all_pairs_insert : i ≤ length xs → AllPairs R xs → ((k : ℕ) (d : X) → k < i → R (get_or xs k d) y) → ((k : ℕ) (d : X) → i ≤ k → k < length xs → R y (get_or xs k d))
      → AllPairs R (insert xs i y)
  all_pairs_insert le pairs before behind j k d less lt =
      let n : length (insert xs i y) ≡ length xs + 1 = length-insert xs i y le in
      ⊎_elim
      (λ low. pair j k d (get_or xs j d) (get_or xs k d) (get_or-insert_below xs i y d j (omega (arith, less, low)) le)
      (get_or-insert_below xs i y d k low le) (pairs j k d less (omega (arith, low, le))))
      (λ from. ⊎_elim
      (λ high. ⊎_elim
      (λ low. pair j k d (get_or xs j d) (get_or xs (k - 1) d) (get_or-insert_below xs i y d j low le) (above k d le high) (pairs j (k - 1) d (omega (arith, low, high)) (omega (arith, n, lt, high))))
      (λ upper. ⊎_elim
      (λ higher. pair j k d (get_or xs (j - 1) d) (get_or xs (k - 1) d) (above j d le higher) (above k d le high) (pairs (j - 1) (k - 1) d (omega (arith, less, higher)) (omega (arith, n, lt, high))))
      (λ upto.
      let is : i ≡ j = omega (arith, upper, upto) in
      pair j k d y (get_or xs (k - 1) d) (ap (λ m. get_or (insert xs i y) m d) (sym is) ∙ get_or-insert_at xs i y d le) (above k d le high)
      (behind (k - 1) d (omega (arith, high)) (omega (arith, n, lt, high))))
      (cases_lt i j))
      (cases_lt j i))
      (λ upto.
      let is : i ≡ k = omega (arith, from, upto) in
      pair j k d (get_or xs j d) y (get_or-insert_below xs i y d j (omega (arith, less, is)) le)
      (ap (λ m. get_or (insert xs i y) m d) (sym is) ∙ get_or-insert_at xs i y d le) (before j d (omega (arith, less, is))))
      (cases_lt i k))
      (cases_lt k i)
