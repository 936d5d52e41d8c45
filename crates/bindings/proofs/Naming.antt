-- The names of libraries as keys of a table, and the search for a name.
use Rattle.std.proofs.Common.{◌≡◌, ℕ, suc, ◌+◌, ◌<◌, ◌++◌, [], ◌∷◌, Bool, true, false, not, cond, ◌||◌, List, length, map, take, get_or, Option, Some, None, refl, sym, ap, ◌∙◌, arith}
use Rattle.std.specs.Prelude.{is_none, nat_lt, position}
use Rattle.std.specs.List.{list_any, position_or_len}
use Rattle.std.specs.Option.{option_map}
use Rattle.std.specs.Str.{bytes_eq}
use Rattle.std.proofs.lemmas.Bool.Decides.{nat_tests}
use Rattle.std.proofs.lemmas.List.{map_push, take_more}
use Rattle.std.proofs.lemmas.List.Folds.{list_any-append}
use Rattle.std.proofs.lemmas.Slice.Eq.{bytes_eq-Decides}
use Rattle.scope.specs.LoadOrder.{place_of}
use Rattle.scope.proofs.Naming.{list_any_of}
use Rattle.bindings.specs.inside.Names.{AreNames}

lt-shift : (n m : ℕ) → nat_lt (1 + n) (suc m) ≡ nat_lt n m
lt-shift n m = by (nat_lt n m) refl
  where
    by : (b : Bool) → nat_lt n m ≡ b → nat_lt (1 + n) (suc m) ≡ b
    by true e = grind (arith, nat_tests)
    by false e = grind (arith, nat_tests)

lt-first : (m : ℕ) → nat_lt 0 (suc m) ≡ true
lt-first m = grind (arith, nat_tests)

within : {X : Type 0} (p : X → Bool) (xs : List X) → nat_lt (position_or_len p xs) (length xs) ≡ list_any p xs
within p [] = refl
within {X} p (x ∷ xs) = by (p x) (within p xs)
  where
    by : (b : Bool) → nat_lt (position_or_len p xs) (length xs) ≡ list_any p xs
        → nat_lt (cond (not b) (1 + position_or_len p xs) 0) (suc (length xs)) ≡ (b || list_any p xs)
    by true h = lt-first (length xs)
    by false h = lt-shift (position_or_len p xs) (length xs) ∙ h

none-by : (b : Bool) (n : ℕ) → is_none (cond b (Some n) None) ≡ not b
none-by true n = refl
none-by false n = refl

none-map : (o : Option ℕ) → is_none (option_map (λ p. p + 1) o) ≡ is_none o
none-map None = refl
none-map (Some p) = refl

not-not : (b : Bool) → not (not b) ≡ b
not-not true = refl
not-not false = refl

-- a name has a place exactly if it is one of the names
pub has-place : (names : List (List ℕ)) (name : List ℕ) → not (is_none (place_of names name)) ≡ list_any (bytes_eq name) names
has-place names name =
    ap not (none-map (position (bytes_eq name) names)
    ∙ none-by (nat_lt (position_or_len (bytes_eq name) names) (length names)) (position_or_len (bytes_eq name) names)
    ∙ ap not (within (bytes_eq name) names))
    ∙ not-not (list_any (bytes_eq name) names)

-- the keys with `name` appended, unless it is one of them
abbrev pub with_key : List (List ℕ) → List ℕ → List (List ℕ)
with_key keys name = cond (list_any (bytes_eq name) keys) keys (keys ++ name ∷ [])

same-by : (b c : Bool) → (c ≡ true → b ≡ true) → b ≡ (b || (c || false))
same-by true c h = refl
same-by false true h = h refl
same-by false false h = refl

key-by : (keys : List (List ℕ)) (name q : List ℕ) (b : Bool) → list_any (bytes_eq name) keys ≡ b
    → list_any (bytes_eq q) (cond b keys (keys ++ name ∷ [])) ≡ (list_any (bytes_eq q) keys || (bytes_eq q name || false))
key-by keys name q true there = same-by (list_any (bytes_eq q) keys) (bytes_eq q name)
    (λ same. ap (λ n. list_any (bytes_eq n) keys) ((bytes_eq-Decides q name).0 same) ∙ there)
key-by keys name q false there = list_any-append (bytes_eq q) keys (name ∷ [])

-- if the keys are the first i names, the keys with the next name are the first i + 1 names
pub names-more : (names keys : List (List ℕ)) (i : ℕ) (name : List ℕ) → i < length names → name ≡ get_or names i name
    → AreNames (take i names) keys → AreNames (take (i + 1) names) (with_key keys name)
names-more names keys i name lt is are = λ q.
    key-by keys name q (list_any (bytes_eq name) keys) refl
    ∙ ap (λ b. b || (bytes_eq q name || false)) (are q)
    ∙ sym (list_any-append (bytes_eq q) (take i names) (name ∷ []))
    ∙ ap (list_any (bytes_eq q)) (ap (λ n. take i names ++ n ∷ []) is ∙ sym (take_more names i name lt))

-- inserting an element in a table inserts its key in the list of keys
pub keys-more : {A : Type 0} (f : A → List ℕ) (keys : List A) (x : A)
    → map f (cond (list_any (λ k. bytes_eq (f x) (f k)) keys) keys (keys ++ x ∷ [])) ≡ with_key (map f keys) (f x)
keys-more {A} f keys x =
    by (list_any (λ k. bytes_eq (f x) (f k)) keys)
    ∙ ap (λ b. cond b (map f keys) (map f keys ++ f x ∷ [])) (sym (list_any_of f (bytes_eq (f x)) keys))
  where
    by : (b : Bool) → map f (cond b keys (keys ++ x ∷ [])) ≡ cond b (map f keys) (map f keys ++ f x ∷ [])
    by true = refl
    by false = map_push f keys x
