-- Texts that grow by the text of one call.
use Rattle.std.proofs.Common.{◌≡◌, ℕ, ◌+◌, ◌-◌, ◌≤◌, ◌++◌, [], ◌∷◌, Bool, true, false, cond, List, Option, Result, Ok, Err, refl, ap, ◌∙◌, sym, arith, map-id}
use Rattle.std.specs.Prelude.{OnOk, filter, not, ◌&&◌, ◌||◌}
use Rattle.std.specs.List.{flat_map, list_all, range_with_len}
use Rattle.std.specs.Io.KnownBytes.{Appends}
use Rattle.std.proofs.KnownBytes.{Appends-trans}
use Rattle.std.proofs.lemmas.Grind.{flat_map-append}
use Rattle.std.proofs.lemmas.List.{append-nil}
use Rattle.std.proofs.lemmas.List.Elements.{filter-append}
use Rattle.std.proofs.lemmas.List.Folds.{list_all-append}
use Rattle.std.proofs.lemmas.List.FromFn.{map-range_with_len_more}

-- if `xs` was appended, and then a call appends `ys`, both have appended `xs ++ ys`
pub then : {T E : Type 0} (r : Result T E) (a b c : Option (List ℕ)) (xs ys : List ℕ) → Appends a b xs → OnOk r (Appends b c ys) → OnOk r (Appends a c (xs ++ ys))
then (Ok t) a b c xs ys p q = Appends-trans a b c xs ys p q
then (Err e) a b c xs ys p q = tt

-- the text of a list with one element more is the text of the list, followed by that of the element
pub behind : {X : Type 0} (f : X → List ℕ) (xs : List X) (x : X) → flat_map f (xs ++ x ∷ []) ≡ flat_map f xs ++ f x
behind f xs x = flat_map-append f xs (x ∷ []) ∙ ap (λ t. flat_map f xs ++ t) (append-nil (f x))

true-behind : (a : Bool) → (a && true) ≡ a
true-behind true = refl
true-behind false = refl

-- all elements of a list with one element more pass a test exactly if those of the list do and the
-- element does
pub all-more : {X : Type 0} (q : X → Bool) (xs : List X) (x : X) → list_all q (xs ++ x ∷ []) ≡ (list_all q xs && q x)
all-more q xs x = list_all-append q xs (x ∷ []) ∙ ap (λ b. list_all q xs && b) (true-behind (q x))

-- a range with one number more is the range, followed by the number
pub range-more : (a n j : ℕ) → a + n ≡ j → range_with_len a (n + 1) ≡ range_with_len a n ++ j ∷ []
range-more a n j e =
    sym (map-id (range_with_len a (n + 1))) ∙ map-range_with_len_more (λ (k : ℕ). k) a n j e
    ∙ ap (λ ks. ks ++ j ∷ []) (map-id (range_with_len a n))

module _ (p : ℕ → Bool) where
  -- the numbers from 1 up to, but not including, a number that pass the test `p`
  abbrev pub passing : ℕ → List ℕ
  passing j = filter p (range_with_len 1 (j - 1))

  range-to : (j : ℕ) → 1 ≤ j → range_with_len 1 (j + 1 - 1) ≡ range_with_len 1 (j - 1) ++ j ∷ []
  range-to j low =
      let e : j + 1 - 1 ≡ (j - 1) + 1 = omega (arith, low) in
      ap (range_with_len 1) e ∙ range-more 1 (j - 1) j (omega (arith, low))

  passing-more : (j : ℕ) (b : Bool) → 1 ≤ j → p j ≡ b → passing (j + 1) ≡ passing j ++ cond b (j ∷ []) []
  passing-more j b low h =
      ap (filter p) (range-to j low) ∙ filter-append p (range_with_len 1 (j - 1)) (j ∷ [])
      ∙ ap (λ c. passing j ++ cond c (j ∷ []) []) h

  -- the text of the numbers below j + 1 that pass is the text of those below j, followed by that of j if
  -- j passes
  pub passing-text : (f : ℕ → List ℕ) (j : ℕ) (b : Bool) → 1 ≤ j → p j ≡ b → flat_map f (passing (j + 1)) ≡ flat_map f (passing j) ++ cond b (f j) []
  passing-text f j b low h = ap (flat_map f) (passing-more j b low h) ∙ by b
    where
      by : (b : Bool) → flat_map f (passing j ++ cond b (j ∷ []) []) ≡ flat_map f (passing j) ++ cond b (f j) []
      by true = behind f (passing j) j
      by false = ap (flat_map f) (append-nil (passing j)) ∙ sym (append-nil (flat_map f (passing j)))

  -- the numbers below j + 1 that pass `p` all pass `q` exactly if those below j do, and j fails `p` or
  -- passes `q`
  pub passing-all : (q : ℕ → Bool) (j : ℕ) (b : Bool) → 1 ≤ j → p j ≡ b → list_all q (passing (j + 1)) ≡ (list_all q (passing j) && (not b || q j))
  passing-all q j b low h = ap (list_all q) (passing-more j b low h) ∙ by b
    where
      by : (b : Bool) → list_all q (passing j ++ cond b (j ∷ []) []) ≡ (list_all q (passing j) && (not b || q j))
      by true = all-more q (passing j) j
      by false = ap (list_all q) (append-nil (passing j)) ∙ sym (true-behind (list_all q (passing j)))
