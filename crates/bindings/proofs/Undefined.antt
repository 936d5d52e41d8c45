-- All symbols that relocations name are bound exactly if a bind finds no undefined symbol.
use Rattle.std.proofs.Common.{◌≡◌, ℕ, zero, suc, ◌-◌, ◌<◌, ◌≤◌, Bool, true, false, not, cond, ◌||◌, List, [], ◌∷◌, length, map, get_or, Option, Some, None, refl, sym, ap, ◌∙◌, subst, arith}
use Rattle.std.specs.Prelude.{◌&&◌, ◌==◌, filter, is_none, is_some}
use Rattle.std.specs.List.{Any, list_all, list_any, find, range_with_len}
use Rattle.std.specs.Option.{option_map}
use Rattle.std.proofs.Common.{eq-eqb}
use Rattle.std.proofs.lemmas.Bool.{eqb-true}
use Rattle.std.proofs.lemmas.Bool.Decides.{nat_tests}
use Rattle.std.proofs.lemmas.List.Folds.{list_any_at, Any-from_list_any}
use Rattle.std.proofs.lemmas.List.FromFn.{get_or-range_with_len, length-range_with_len}
use Rattle.std.proofs.lemmas.List.Sums.{AllPass-from_list_all, list_all-from_AllPass}
use Rattle.std.proofs.lemmas.Option.{slice_get-get_or}
use Rattle.elf_file.specs.FirstOf.{first_of}
use Rattle.elf_dynamic.specs.Constant.{R_X86_64_64, R_X86_64_RELATIVE}
use Rattle.elf_dynamic.specs.Relocation.{relocations, uses_symbol}
use Rattle.elf_dynamic.specs.HashTable.{chains}
use Rattle.elf_dynamic.specs.Refusal.{first_refusal}
use Rattle.elf_dynamic.specs.Symbol.{symbols}
use Rattle.elf_dynamic.specs.declared.relocation.Relocation.{Relocation}
use Rattle.scope.specs.Target.{target}
use Rattle.image.specs.Placement.{Placed, named}
use Rattle.image.specs.Refusal.{undefined_by, undefined_in, undefined_refusal}
use Rattle.image.specs.Relocating.{file_at, is_undefined, symbol_value, target_value}
use Rattle.image.specs.declared.refusal.BindRefusal.{BindRefusal}
use Rattle.image.proofs.Landing.{symbol-there}
use Rattle.bindings.specs.Bindings.{target_at}
use Rattle.bindings.specs.Named.{named_symbols, names_symbol}

none-map : {A B : Type 0} (f : A → B) (o : Option A) → is_none (option_map f o) ≡ is_none o
none-map f None = refl
none-map f (Some a) = refl

not-none : {A : Type 0} (o : Option A) → is_none o ≡ not (is_some o)
not-none None = refl
not-none (Some a) = refl

undefined-by : (kind w : ℕ) (f : ℕ → ℕ) (v : Option ℕ) (b1 b2 b3 : Bool) → (kind == R_X86_64_RELATIVE) ≡ b1 → (kind == R_X86_64_64) ≡ b2 → uses_symbol kind ≡ b3
    → ((b3 || b1) && is_none (cond b1 (Some w) (cond b2 (option_map f v) (cond b3 v None)))) ≡ (b3 && is_none v)
undefined-by kind w f v true b2 true e1 e2 e3 = grind (arith, nat_tests)
undefined-by kind w f v true b2 false e1 e2 e3 = refl
undefined-by kind w f v false true true e1 e2 e3 = none-map f v
undefined-by kind w f v false true false e1 e2 e3 = grind (arith, nat_tests)
undefined-by kind w f v false false true e1 e2 e3 = refl
undefined-by kind w f v false false false e1 e2 e3 = refl

value-none : (objects : List Placed) (own i : ℕ) → is_none (symbol_value objects own i) ≡ not (is_some (target_at objects own i))
unfolding symbol_value
value-none objects own i = none-map (target_value objects) (target_at objects own i) ∙ not-none (target_at objects own i)

-- a relocation is undefined exactly if it uses a symbol that isn't bound
undefined-is : (objects : List Placed) (own : ℕ) (r : Relocation)
    → is_undefined objects own r ≡ (uses_symbol r.kind && not (is_some (target_at objects own r.symbol)))
undefined-is objects own r =
    undefined-by r.kind _ _ (symbol_value objects own r.symbol) (r.kind == R_X86_64_RELATIVE) (r.kind == R_X86_64_64) (uses_symbol r.kind) refl refl refl
    ∙ ap (λ b. uses_symbol r.kind && b) (value-none objects own r.symbol)

zero-bound : (objects : List Placed) (own : ℕ) → is_some (target_at objects own 0) ≡ true
unfolding target
zero-bound objects own = refl

same : (a b : Bool) → (a ≡ true → b ≡ true) → (b ≡ true → a ≡ true) → a ≡ b
same true true f g = refl
same true false f g = sym (f refl)
same false true f g = g refl
same false false f g = refl

all-filter : {X : Type 0} (p q : X → Bool) (xs : List X) → list_all q (filter p xs) ≡ list_all (λ x. not (p x) || q x) xs
all-filter p q [] = refl
all-filter {X} p q (x ∷ xs) = by (p x) (all-filter p q xs)
  where
    by : (b : Bool) → list_all q (filter p xs) ≡ list_all (λ x. not (p x) || q x) xs
        → list_all q (cond b (x ∷ filter p xs) (filter p xs)) ≡ ((not b || q x) && list_all (λ x. not (p x) || q x) xs)
    by true h = ap (λ b. q x && b) h
    by false h = h

and-right : (a b : Bool) → (a && b) ≡ true → b ≡ true
and-right true b h = h
and-right false b h = cc

and-left : (a b : Bool) → (a && b) ≡ true → a ≡ true
and-left true b h = refl
and-left false b h = cc

or-by : (a b : Bool) → (a ≡ true → b ≡ true) → (not a || b) ≡ true
or-by true b h = h refl
or-by false b h = refl

or-then : (a b : Bool) → (not a || b) ≡ true → a ≡ true → b ≡ true
or-then true b h e = h
or-then false b h e = cc

not-by : (a b : Bool) → (a ≡ true → b ≡ true) → not (a && not b) ≡ true
not-by true true h = refl
not-by true false h = h refl
not-by false b h = refl

not-then : (a b : Bool) → not (a && not b) ≡ true → a ≡ true → b ≡ true
not-then true true h e = refl
not-then true false h e = cc
not-then false b h e = cc

and-both : (a b : Bool) → a ≡ true → b ≡ true → (a && b) ≡ true
and-both true b h e = e
and-both false b h e = cc

-- if relocations name only symbols below `n`, the symbols that they name all pass `q` exactly if no
-- relocation uses a symbol that fails `q`
module _ (q : ℕ → Bool) (first : q 0 ≡ true) (rs : List Relocation) (n : ℕ)
    (there : (k : ℕ) (d : Relocation) → k < length rs → uses_symbol (get_or rs k d).kind ≡ true → (get_or rs k d).symbol < n) where
  abbrev pub p : ℕ → Bool
  p i = list_any (names_symbol i) rs

  abbrev pub ok : Relocation → Bool
  ok r = not (uses_symbol r.kind && not (q r.symbol))

  at-first : (s : ℕ) → (1 ≤ s → q s ≡ true) → q s ≡ true
  at-first zero h = first
  at-first (suc s) h = h (omega arith)

  symbols-at : list_all (λ i. not (p i) || q i) (range_with_len 1 (n - 1)) ≡ true → (i : ℕ) → 1 ≤ i → i < n → p i ≡ true → q i ≡ true
  symbols-at h i low lt named =
      let inside : i - 1 < length (range_with_len 1 (n - 1)) = omega (arith, low, lt, length-range_with_len 1 (n - 1)) in
      let at = AllPass-from_list_all (λ j. not (p j) || q j) (range_with_len 1 (n - 1)) h (i - 1) 0 inside in
      let is : get_or (range_with_len 1 (n - 1)) (i - 1) 0 ≡ i = omega (arith, low, get_or-range_with_len 1 (n - 1) (i - 1) 0 (omega (arith, low, lt))) in
      or-then (p i) (q i) (subst (λ j. (not (p j) || q j) ≡ true) is at) named

  to-relocations : list_all (λ i. not (p i) || q i) (range_with_len 1 (n - 1)) ≡ true → list_all ok rs ≡ true
  to-relocations h = list_all-from_AllPass ok rs (λ k d lt.
      let r = get_or rs k d in
      not-by (uses_symbol r.kind) (q r.symbol) (λ used. at-first r.symbol (λ low.
      symbols-at h r.symbol low (there k d lt used)
      (list_any_at (names_symbol r.symbol) rs k d lt (and-both (uses_symbol r.kind) (r.symbol == r.symbol) used (eq-eqb r.symbol r.symbol refl))))))

  to-symbols : list_all ok rs ≡ true → list_all (λ i. not (p i) || q i) (range_with_len 1 (n - 1)) ≡ true
  to-symbols h = list_all-from_AllPass (λ i. not (p i) || q i) (range_with_len 1 (n - 1)) (λ k d lt.
      let i = get_or (range_with_len 1 (n - 1)) k d in
      or-by (p i) (q i) (λ named. by-any i (Any-from_list_any (names_symbol i) rs named)))
    where
      by-any : (i : ℕ) → Any (λ r. names_symbol i r ≡ true) rs → q i ≡ true
      by-any i (k, r, lt, is, pass) =
          let fine : ok r ≡ true = subst (λ x. ok x ≡ true) is (AllPass-from_list_all ok rs h k r lt) in
          let used : uses_symbol r.kind ≡ true = and-left (uses_symbol r.kind) (r.symbol == i) pass in
          let same_symbol : r.symbol ≡ i = eqb-true r.symbol i (and-right (uses_symbol r.kind) (r.symbol == i) pass) in
          subst (λ s. q s ≡ true) same_symbol (not-then (uses_symbol r.kind) (q r.symbol) fine used)

  pub all-pass : list_all q (filter p (range_with_len 1 (n - 1))) ≡ list_all ok rs
  all-pass = all-filter p q (range_with_len 1 (n - 1)) ∙ same _ _ to-relocations to-symbols

find-none : {X : Type 0} (p : X → Bool) (xs : List X) → list_all (λ x. not (p x)) xs ≡ is_none (find p xs)
find-none p [] = refl
find-none {X} p (x ∷ xs) = by (p x) (find-none p xs)
  where
    by : (b : Bool) → list_all (λ y. not (p y)) xs ≡ is_none (find p xs) → (not b && list_all (λ y. not (p y)) xs) ≡ is_none (cond b (Some x) (find p xs))
    by true h = refl
    by false h = h

list_all-same : {X : Type 0} (f g : X → Bool) → ((x : X) → f x ≡ g x) → (xs : List X) → list_all f xs ≡ list_all g xs
list_all-same f g h [] = refl
list_all-same f g h (x ∷ xs) = ap (λ b. b && list_all f xs) (h x) ∙ ap (λ b. g x && b) (list_all-same f g h xs)

-- the symbols of object number `own` that relocations name are all bound exactly if the object has no
-- undefined relocation
pub bound-of : (objects : List Placed) (own : ℕ)
    → first_refusal (file_at objects own) ≡ None → length (symbols (file_at objects own)) ≡ length (chains (file_at objects own))
    → list_all (λ i. is_some (target_at objects own i)) (named_symbols (file_at objects own)) ≡ is_none (undefined_in objects own)
unfolding named_symbols undefined_in
bound-of objects own accepted counted =
    let file = file_at objects own in
    let q = λ (i : ℕ). is_some (target_at objects own i) in
    all-pass q (zero-bound objects own) (relocations file) (length (symbols file))
    (λ k d lt used. omega (arith, counted, symbol-there file k (get_or (relocations file) k d) accepted (slice_get-get_or (relocations file) k d lt) used))
    ∙ list_all-same (λ r. not (uses_symbol r.kind && not (q r.symbol))) (λ r. not (is_undefined objects own r))
    (λ r. ap not (sym (undefined-is objects own r))) (relocations file)
    ∙ find-none (is_undefined objects own) (relocations file)
    ∙ sym (none-map (undefined_by objects own) (find (is_undefined objects own) (relocations file)))

first-none : (f : ℕ → Option BindRefusal) (xs : List ℕ) → list_all (λ x. is_none (f x)) xs ≡ is_none (first_of (map f xs))
first-none f [] = refl
first-none f (x ∷ xs) = by (f x) (first-none f xs)
  where
    by : (o : Option BindRefusal) → list_all (λ y. is_none (f y)) xs ≡ is_none (first_of (map f xs))
        → (is_none o && list_all (λ y. is_none (f y)) xs) ≡ is_none (first_of (o ∷ map f xs))
    by None h = h
    by (Some e) h = refl

-- no object has an undefined relocation exactly if `undefined_refusal` is none
pub all-bound : (objects : List Placed) → list_all (λ own. is_none (undefined_in objects own)) (range_with_len 0 (length objects)) ≡ is_none (undefined_refusal objects)
unfolding undefined_refusal
all-bound objects = first-none (undefined_in objects) (range_with_len 0 (length objects))
