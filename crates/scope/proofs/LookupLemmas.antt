-- The result of lookup, for readers and callers. It is a symbolic object's own definition, or else the
-- first definition in load order. Lookup finds none only if there is none.
use Rattle.std.proofs.Common.{◌≡◌, ℕ, zero, suc, ◌+◌, ◌<◌, ◌≤◌, Bool, true, false, cond, List, ◌∷◌, length, map, Option, None, Some, refl, sym, ap, ◌∙◌, ◌⊎◌, ⊎_elim, arith}
use Rattle.std.specs.Prelude.{is_none, unwrap_or}
use Rattle.std.specs.List.{range_with_len}
use Rattle.std.specs.Option.{option_map}
use Rattle.std.proofs.lemmas.Bool.{false≢true, cases_lt}
use Rattle.elf_file.specs.FirstOf.{first_of}
use Rattle.elf_file.specs.Dynamic.{is_symbolic}
use Rattle.hash_check.specs.Definition.{definition_of}
use Rattle.scope.specs.Objects.{Named, file_at}
use Rattle.scope.specs.Lookup.{all_places, definition_at, lookup}
use Rattle.scope.specs.declared.target.Target.{Target}
use Rattle.scope.specs.declared.target.Target.TheVariants.{Zero, At}

-- of the places from `a` up to, but not including, a + n, `at` is the first at which `f` has a value,
-- and this value is `x`
record IsFirst {R : Type 0} (f : ℕ → Option R) (a n : ℕ) (x : R) : Type 0 where
  at : ℕ
  from : a ≤ at
  below : at < a + n
  here : f at ≡ Some x
  before : (k : ℕ) → a ≤ k → k < at → f k ≡ None

module _ {R : Type 0} (f : ℕ → Option R) where
  first-is : (n a : ℕ) (x : R) → first_of (map f (range_with_len a n)) ≡ Some x → IsFirst f a n x
  first-is zero a x e = absurd (false≢true (sym (ap is_none e)))
  first-is (suc n) a x e = by (f a) refl e (λ rest. first-is n (a + 1) x rest)
    where
      by : (o : Option R) → f a ≡ o → first_of (o ∷ map f (range_with_len (a + 1) n)) ≡ Some x
          → (first_of (map f (range_with_len (a + 1) n)) ≡ Some x → IsFirst f (a + 1) n x) → IsFirst f a (suc n) x
      by (Some y) here some more = record {
        at = a;
        from = omega arith;
        below = omega arith;
        here = here ∙ some;
        before = λ k ge lt. absurd (omega (arith, ge, lt));
      }
      by None here rest more =
          let r = more rest in
          record {
            at = r.at;
            from = omega (arith, r.from);
            below = omega (arith, r.below);
            here = r.here;
            before = λ k ge lt. ⊎_elim
                (λ later. r.before k (omega (arith, later)) lt)
                (λ back. let same : a ≡ k = omega (arith, ge, back) in ap f (sym same) ∙ here)
                (cases_lt a k);
          }

-- The object at `place` is the first that defines the name, and its definition is `symbol`.
pub record IsFirstDefinition (objects : List Named) (name : List ℕ) (place symbol : ℕ) : Type 0 where
  pub inside : place < length objects
  pub defines : definition_of (file_at objects place) name ≡ Some symbol
  pub before : (k : ℕ) → k < place → definition_of (file_at objects k) name ≡ None

no_definition : (place : ℕ) (o : Option ℕ) → option_map (At place) o ≡ None → o ≡ None
no_definition place None e = refl
no_definition place (Some s) e = absurd (false≢true (ap is_none e))

-- Lookup finds a symbolic object's own definition before all others.
pub lookup-own : (objects : List Named) (object : ℕ) (name : List ℕ) (symbol : ℕ) → is_symbolic (file_at objects object) ≡ true
    → definition_of (file_at objects object) name ≡ Some symbol → lookup objects object name ≡ Some (At object symbol)
unfolding lookup
lookup-own objects object name symbol symbolic defines = by (is_symbolic (file_at objects object)) symbolic
  where
    by : (s : Bool) → s ≡ true → first_of (map (definition_at objects name) (cond s (object ∷ all_places objects) (all_places objects))) ≡ Some (At object symbol)
    by true e = ap (λ o. first_of (option_map (At object) o ∷ map (definition_at objects name) (all_places objects))) defines
    by false e = absurd (false≢true e)

-- if an object isn't symbolic, or doesn't define the name, searching its scope finds the same as
-- searching in load order
in_order : (objects : List Named) (object : ℕ) (name : List ℕ) (s : Bool) → (s ≡ false) ⊎ (definition_of (file_at objects object) name ≡ None)
    → first_of (map (definition_at objects name) (cond s (object ∷ all_places objects) (all_places objects)))
    ≡ first_of (map (definition_at objects name) (all_places objects))
in_order objects object name false h = refl
in_order objects object name true h = ⊎_elim
    (λ plain. absurd (false≢true (sym plain)))
    (λ none. ap (λ o. first_of (option_map (At object) o ∷ map (definition_at objects name) (all_places objects))) none)
    h

-- In all other cases, lookup finds a symbol of the first object that defines the name.
pub lookup-first : (objects : List Named) (object : ℕ) (name : List ℕ) (found : Target)
    → (is_symbolic (file_at objects object) ≡ false) ⊎ (definition_of (file_at objects object) name ≡ None) → lookup objects object name ≡ Some found
    → (place : ℕ) × (symbol : ℕ) × (found ≡ At place symbol) × IsFirstDefinition objects name place symbol
unfolding lookup
lookup-first objects object name found order e =
    let r = first-is (definition_at objects name) (length objects) 0 found (sym (in_order objects object name (is_symbolic (file_at objects object)) order) ∙ e) in
    by r (definition_of (file_at objects r.at) name) refl r.here
  where
    by : (r : IsFirst (definition_at objects name) 0 (length objects) found) → (o : Option ℕ) → definition_of (file_at objects r.at) name ≡ o
        → option_map (At r.at) o ≡ Some found → (place : ℕ) × (symbol : ℕ) × (found ≡ At place symbol) × IsFirstDefinition objects name place symbol
    by r None defines none = absurd (false≢true (sym (ap is_none none)))
    by r (Some s) defines some = (
      r.at,
      s,
      sym (ap (λ t. unwrap_or t Zero) some),
      record {
        inside = omega (arith, r.below);
        defines = defines;
        before = λ k lt. no_definition k (definition_of (file_at objects k) name) (r.before k (omega arith) lt);
      },
    )

none-at : {R : Type 0} (f : ℕ → Option R) (n a : ℕ) → first_of (map f (range_with_len a n)) ≡ None → (k : ℕ) → a ≤ k → k < a + n → f k ≡ None
none-at f zero a e k ge lt = absurd (omega (arith, ge, lt))
none-at {R} f (suc n) a e k ge lt = by (f a) refl e (λ rest later. none-at f n (a + 1) rest k later (omega (arith, lt)))
  where
    by : (o : Option R) → f a ≡ o → first_of (o ∷ map f (range_with_len (a + 1) n)) ≡ None
        → (first_of (map f (range_with_len (a + 1) n)) ≡ None → a + 1 ≤ k → f k ≡ None) → f k ≡ None
    by (Some y) here some more = absurd (false≢true (ap is_none some))
    by None here rest more = ⊎_elim
        (λ later. more rest (omega (arith, later)))
        (λ back. let same : a ≡ k = omega (arith, ge, back) in ap f (sym same) ∙ here)
        (cases_lt a k)

none-behind : {R : Type 0} (o : Option R) (rest : List (Option R)) → first_of (o ∷ rest) ≡ None → first_of rest ≡ None
none-behind None rest e = e
none-behind (Some x) rest e = absurd (false≢true (ap is_none e))

none-in_order : (objects : List Named) (object : ℕ) (name : List ℕ) (s : Bool)
    → first_of (map (definition_at objects name) (cond s (object ∷ all_places objects) (all_places objects))) ≡ None
    → first_of (map (definition_at objects name) (all_places objects)) ≡ None
none-in_order objects object name false e = e
none-in_order objects object name true e = none-behind (definition_at objects name object) (map (definition_at objects name) (all_places objects)) e

-- If lookup finds nothing, no object defines the name.
pub lookup-nowhere : (objects : List Named) (object : ℕ) (name : List ℕ) → lookup objects object name ≡ None
    → (k : ℕ) → k < length objects → definition_of (file_at objects k) name ≡ None
unfolding lookup
lookup-nowhere objects object name e k lt =
    let none = none-in_order objects object name (is_symbolic (file_at objects object)) e in
    no_definition k (definition_of (file_at objects k) name)
    (none-at (definition_at objects name) (length objects) 0 none k (omega arith) (omega (arith, lt)))
