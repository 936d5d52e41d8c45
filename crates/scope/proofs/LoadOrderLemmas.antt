-- The meaning of the load order, for readers and callers. It begins with the program and the preloads,
-- and has no object twice. If no name is missing, it has a library for each name that one of its objects
-- needs. Each library, except the preloads, is needed by an object of the level just before its own.
use Rattle.std.proofs.Common.{◌≡◌, ◌⊎◌, ℕ, zero, suc, ◌+◌, ◌<◌, Bool, true, false, cond, List, [], ◌∷◌, length, map, take, get_or, nat_eq, Option}
use Rattle.std.proofs.Common.{Some, None, refl, sym, ap, subst, ◌∙◌, ⊎_elim, inl, inr, arith}
use native.Mathlib.Numerals.{unary_clauses}
use Rattle.std.specs.Prelude.{nat_lt, is_none, unwrap_or}
use Rattle.std.specs.List.{All, Contains, IsDistinct, filter_map, flat_map, find, cons_option, position_or_len}
use Rattle.std.specs.Option.{option_map}
use Rattle.std.specs.Str.{bytes_eq}
use Rattle.std.proofs.lemmas.Bool.{ltb-true, eqb-false, false≢true, cases_order}
use Rattle.std.proofs.lemmas.List.{length-map, get_or-map}
use Rattle.std.proofs.lemmas.List.Elements.{All-cons, All-get_or, All-map, All-weaker, Contains-append_left, Contains-append_right}
use Rattle.std.proofs.lemmas.List.Sums.{passes_at_first}
use Rattle.std.proofs.lemmas.Cmp.{nat_list_eq_equiv}
use Rattle.std.proofs.lemmas.Map.Keys.{IsDistinct-from_apart, apart_from_distinct}
use Rattle.std.proofs.lemmas.Slice.Eq.{bytes_eq-Decides}
use Rattle.elf_dynamic.specs.Strings.{needed}
use Rattle.scope.specs.Objects.{Named, file_at, name_at, program_name}
use Rattle.scope.specs.Levels.{levels}
use Rattle.scope.specs.LoadOrder.{available, names_of, place_of, needs_of, level_0, load_places, object_at, load_order, Need, needed_by, is_missing, missing}
use Rattle.scope.proofs.Apart.{distinct-level_0}
use Rattle.scope.proofs.DistinctLevels.{joined_levels-distinct}
use Rattle.scope.proofs.LevelsLemmas.{joined_levels-first, joined_levels-below, joined_levels-closed, joined_levels-level, level-needed}

pub contains-cons : {X : Type 0} (x y : X) (ys : List X) → Contains (y ∷ ys) x → (y ≡ x) ⊎ Contains ys x
contains-cons x y ys (zero, lt, is) = inl is
contains-cons x y ys (suc k, lt, is) = inr (k, omega (arith, lt), is)

pub contains-later : {X : Type 0} (x y : X) (ys : List X) → Contains ys x → Contains (y ∷ ys) x
contains-later x y ys c = (suc c.0, omega (arith, c.1), c.2)

pub contains-here : {X : Type 0} (x : X) (ys : List X) → Contains (x ∷ ys) x
contains-here x ys = (0, omega arith, refl)

module _ {X Y : Type 0} (f : X → Option Y) where
  -- an element is in the result of `filter_map` exactly if `f` returns it for an element of the list
  from_filter_map : (xs : List X) (y : Y) → Contains (filter_map f xs) y → (x : X) × Contains xs x × (f x ≡ Some y)
  from_filter_map [] y (k, lt, is) = absurd (omega (arith, lt))
  from_filter_map (x ∷ xs) y h = by (f x) refl h (λ g. from_filter_map xs y g)
    where
      by : (o : Option Y) → f x ≡ o → Contains (cons_option o (filter_map f xs)) y
          → (Contains (filter_map f xs) y → (z : X) × Contains xs z × (f z ≡ Some y))
          → (z : X) × Contains (x ∷ xs) z × (f z ≡ Some y)
      by None e g more = let r = more g in (r.0, contains-later r.0 x xs r.1, r.2)
      by (Some w) e g more = ⊎_elim
          (λ same. (x, contains-here x xs, e ∙ ap Some same))
          (λ later. let r = more later in (r.0, contains-later r.0 x xs r.1, r.2))
          (contains-cons y w (filter_map f xs) g)

  pub in_filter_map : (xs : List X) (x : X) (y : Y) → Contains xs x → f x ≡ Some y → Contains (filter_map f xs) y
  in_filter_map [] x y (k, lt, is) e = absurd (omega (arith, lt))
  in_filter_map (z ∷ zs) x y h e = ⊎_elim
      (λ same. subst (λ o. Contains (cons_option o (filter_map f zs)) y) (sym (ap f same ∙ e)) (contains-here y (filter_map f zs)))
      (λ later. behind (f z) (in_filter_map zs x y later e))
      (contains-cons x z zs h)
    where
      behind : (o : Option Y) → Contains (filter_map f zs) y → Contains (cons_option o (filter_map f zs)) y
      behind None g = g
      behind (Some w) g = contains-later y w (filter_map f zs) g

pub contains-map : {X Y : Type 0} (f : X → Y) (xs : List X) (x : X) → Contains xs x → Contains (map f xs) (f x)
contains-map f [] x (k, lt, is) = absurd (omega (arith, lt))
contains-map f (z ∷ zs) x h = ⊎_elim
    (λ same. subst (λ w. Contains (w ∷ map f zs) (f x)) (sym (ap f same)) (contains-here (f x) (map f zs)))
    (λ later. contains-later (f x) (f z) (map f zs) (contains-map f zs x later))
    (contains-cons x z zs h)

pub map-contains : {X Y : Type 0} (f : X → Y) (xs : List X) (y : Y) → Contains (map f xs) y → (x : X) × Contains xs x × (f x ≡ y)
map-contains f [] y (k, lt, is) = absurd (omega (arith, lt))
map-contains f (z ∷ zs) y h = ⊎_elim
    (λ same. (z, contains-here z zs, same))
    (λ later. let r = map-contains f zs y later in (r.0, contains-later r.0 z zs r.1, r.2))
    (contains-cons y (f z) (map f zs) h)

contains-flat_map : {X Y : Type 0} (f : X → List Y) (xs : List X) (x : X) (y : Y) → Contains xs x → Contains (f x) y → Contains (flat_map f xs) y
contains-flat_map f [] x y (k, lt, is) g = absurd (omega (arith, lt))
contains-flat_map f (z ∷ zs) x y h g = ⊎_elim
    (λ same. Contains-append_left (f z) (flat_map f zs) y (subst (λ w. Contains (f w) y) (sym same) g))
    (λ later. Contains-append_right (f z) (flat_map f zs) y (contains-flat_map f zs x y later g))
    (contains-cons x z zs h)

-- if `find` returns none, no element of the list passes the test
find-none : {X : Type 0} (p : X → Bool) (xs : List X) (x : X) → find p xs ≡ None → Contains xs x → p x ≡ false
find-none p [] x none (k, lt, is) = absurd (omega (arith, lt))
find-none {X} p (z ∷ zs) x none h = by (p z) refl none (λ rest later. find-none p zs x rest later)
  where
    by : (b : Bool) → p z ≡ b → cond b (Some z) (find p zs) ≡ None → (find p zs ≡ None → Contains zs x → p x ≡ false) → p x ≡ false
    by true e some more = absurd (false≢true (ap is_none some))
    by false e rest more = ⊎_elim (λ same. ap p (sym same) ∙ e) (more rest) (contains-cons x z zs h)

-- if a name has a place, the library at this place has the name
pub place_of-is : (names : List (List ℕ)) (name : List ℕ) (p : ℕ) → place_of names name ≡ Some p
    → (i : ℕ) × (p ≡ i + 1) × (i < length names) × (get_or names i [] ≡ name)
place_of-is names name p e = by (nat_lt i (length names)) refl e
  where
    i : ℕ
    i = position_or_len (bytes_eq name) names

    by : (b : Bool) → nat_lt i (length names) ≡ b → option_map (λ q. q + 1) (cond b (Some i) None) ≡ Some p
        → (i : ℕ) × (p ≡ i + 1) × (i < length names) × (get_or names i [] ≡ name)
    by false lt none = absurd (false≢true (sym (ap is_none none)))
    by true lt some =
        let inside : i < length names = ltb-true i (length names) lt in
        (i, sym (ap (λ o. unwrap_or o 0) some), inside, sym ((bytes_eq-Decides name (get_or names i [])).0 (passes_at_first (bytes_eq name) names [] inside)))

-- if a name isn't missing, it has a place
place-there : (o : Option ℕ) → is_none o ≡ false → (p : ℕ) × (o ≡ Some p)
place-there None e = absurd (false≢true (sym e))
place-there (Some p) e = (p, refl)

module _ (program : List ℕ) (libraries : List Named) where
  place-below : (name : List ℕ) (p : ℕ) → place_of (names_of libraries) name ≡ Some p → p < length (available program libraries)
  place-below name p e =
      let r = place_of-is (names_of libraries) name p e in
      omega (arith, r.1, r.2, length-map libraries (λ (o : Named). o.name))

  pub place-name : (name : List ℕ) (p : ℕ) → place_of (names_of libraries) name ≡ Some p → name_at (available program libraries) p ≡ name
  place-name name p e =
      let r = place_of-is (names_of libraries) name p e in
      ap (λ q. name_at (available program libraries) q) r.1 ∙ later program_name (names_of libraries) r.0 ∙ r.3
    where
      later : (first : List ℕ) (rest : List (List ℕ)) (k : ℕ) → get_or (first ∷ rest) (k + 1) [] ≡ get_or rest k []
      later first rest k = simp unary_clauses refl

  pub needs-below : (y x : ℕ) → Contains (needs_of program libraries y) x → x < length (available program libraries)
  needs-below y x h =
      let r = from_filter_map (place_of (names_of libraries)) (needed (file_at (available program libraries) y)) x h in
      place-below r.0 x r.2

  module _ (preloads : List ℕ) where
    -- the levels of places that are joined to the load order
    abbrev pub load_levels : List (List ℕ)
    load_levels = levels (needs_of program libraries) (length (available program libraries)) (level_0 preloads)

    -- The load order begins with the program and the preloads, in their order.
    pub load_order-first : take (length (level_0 preloads)) (load_places program libraries preloads) ≡ level_0 preloads
    unfolding load_places
    load_order-first = joined_levels-first (needs_of program libraries) (length (available program libraries)) (level_0 preloads)

    -- Each object of the load order is in one level.
    pub load_order-level : (x : ℕ) → Contains (load_places program libraries preloads) x → (k : ℕ) × Contains (get_or load_levels k []) x
    unfolding load_places
    load_order-level x h = joined_levels-level (needs_of program libraries) (length (available program libraries)) (level_0 preloads) x h

    -- Each object of a level, except level 0, has a name that an object of the level just before needs.
    pub load_order-needed : (k x : ℕ) → Contains (get_or load_levels (k + 1) []) x
        → (y : ℕ) × Contains (get_or load_levels k []) y × Contains (needed (file_at (available program libraries) y)) (name_at (available program libraries) x)
    load_order-needed k x h =
        let r = level-needed (needs_of program libraries) (length (available program libraries)) k (level_0 preloads) x h in
        let n = from_filter_map (place_of (names_of libraries)) (needed (file_at (available program libraries) r.0)) x r.2 in
        (r.0, r.1, subst (Contains (needed (file_at (available program libraries) r.0))) (sym (place-name n.0 x n.2)) n.1)

    module _ (low : All (λ p. p < length libraries) preloads) (distinct : IsDistinct nat_eq preloads) where
      pub low-level_0 : All (λ p. p < length (available program libraries)) (level_0 preloads)
      low-level_0 =
          All-cons (λ p. p < length (available program libraries)) 0 (map (λ p. p + 1) preloads) (omega arith)
          (All-map (λ p. p < length (available program libraries)) (λ p. p + 1) preloads
          (All-weaker (λ p. p < length libraries) (λ p. p + 1 < length (available program libraries)) (λ p lt. omega (arith, lt)) preloads low))

      -- No object is in the load order twice, and each is the program or an installed library.
      pub load_order-distinct : IsDistinct nat_eq (load_places program libraries preloads)
      unfolding load_places
      load_order-distinct = joined_levels-distinct (needs_of program libraries) (length (available program libraries)) (level_0 preloads) (distinct-level_0 preloads distinct)

      pub load_order-below : All (λ p. p < length (available program libraries)) (load_places program libraries preloads)
      unfolding load_places
      load_order-below =
          joined_levels-below (needs_of program libraries) (length (available program libraries)) needs-below
          (length (available program libraries)) (level_0 preloads) low-level_0 (distinct-level_0 preloads distinct)

      -- If the names of the program and the libraries are distinct, the names of the objects of the load
      -- order are too.
      pub load_order-names : IsDistinct bytes_eq (names_of (available program libraries)) → IsDistinct bytes_eq (names_of (load_order program libraries preloads))
      unfolding load_order
      load_order-names names =
          IsDistinct-from_apart bytes_eq (names_of (map (object_at (available program libraries)) places)) (λ i j d lt inside.
          let ltj : j < length places = omega (arith, inside, count) in
          let lti : i < length places = omega (arith, lt, ltj) in
          ap (λ n. bytes_eq n (get_or (names_of (map (object_at (available program libraries)) places)) j d)) (at i d lti)
          ∙ ap (bytes_eq (name_at (available program libraries) (get_or places i 0))) (at j d ltj)
          ∙ apart (get_or places i 0) (get_or places j 0) (inside-of i lti) (inside-of j ltj) (apart_from_distinct nat_eq places i j 0 load_order-distinct lt ltj))
        where
          places : List ℕ
          places = load_places program libraries preloads

          count : length (names_of (map (object_at (available program libraries)) places)) ≡ length places
          count = length-map (map (object_at (available program libraries)) places) (λ (o : Named). o.name) ∙ length-map places (object_at (available program libraries))

          inside-of : (i : ℕ) → i < length places → get_or places i 0 < length (available program libraries)
          inside-of i lt = All-get_or (λ p. p < length (available program libraries)) places i 0 lt load_order-below

          at : (i : ℕ) (d : List ℕ) → i < length places
              → get_or (names_of (map (object_at (available program libraries)) places)) i d ≡ name_at (available program libraries) (get_or places i 0)
          at i d lt =
              get_or-map (λ (o : Named). o.name) (map (object_at (available program libraries)) places) i (object_at (available program libraries) 0) d
              (omega (arith, lt, length-map places (object_at (available program libraries))))
              ∙ ap (λ (o : Named). o.name) (get_or-map (object_at (available program libraries)) places i 0 (object_at (available program libraries) 0) lt)

          apart : (a b : ℕ) → a < length (available program libraries) → b < length (available program libraries) → nat_eq a b ≡ false
              → bytes_eq (name_at (available program libraries) a) (name_at (available program libraries) b) ≡ false
          apart a b lta ltb differ = ⊎_elim
              (λ same. absurd (eqb-false a b differ same))
              (λ order. ⊎_elim
              (λ before. apart_from_distinct bytes_eq (names_of (available program libraries)) a b [] names before
              (omega (arith, ltb, length-map (available program libraries) (λ (o : Named). o.name))))
              (λ behind. nat_list_eq_equiv.symm (name_at (available program libraries) a) (name_at (available program libraries) b)
              ∙ apart_from_distinct bytes_eq (names_of (available program libraries)) b a [] names behind
              (omega (arith, lta, length-map (available program libraries) (λ (o : Named). o.name))))
              order)
              (cases_order a b)

      -- If no name is missing, each name that an object of the load order needs is the name of one of its objects.
      pub load_order-closed : missing program libraries preloads ≡ None → (object : Named) (name : List ℕ)
          → Contains (load_order program libraries preloads) object → Contains (needed object.file) name
          → Contains (names_of (load_order program libraries preloads)) name
      unfolding load_order load_places missing
      load_order-closed none object name there needs =
          let places : List ℕ = load_places program libraries preloads in
          let needs_at = needs_of program libraries in
          let y = map-contains (object_at (available program libraries)) places object there in
          let here : Contains (needed (file_at (available program libraries) y.0)) name = subst (λ (o : Named). Contains (needed o.file) name) (sym y.2) needs in
          let need : Need = record { needer = object.name; name = name } in
          let installed : is_none (place_of (names_of libraries) name) ≡ false =
          find-none (is_missing (names_of libraries)) (flat_map needed_by (load_order program libraries preloads)) need none
          (contains-flat_map needed_by (load_order program libraries preloads) object need there
          (contains-map (λ n. let r : Need = record { needer = object.name; name = n } in r) (needed object.file) name needs)) in
          let p = place-there (place_of (names_of libraries) name) installed in
          let in_places : Contains places p.0 =
          joined_levels-closed needs_at (length (available program libraries)) needs-below (length (available program libraries)) (level_0 preloads) low-level_0
          (distinct-level_0 preloads distinct) (omega arith) y.0 p.0 y.1
          (in_filter_map (place_of (names_of libraries)) (needed (file_at (available program libraries) y.0)) name p.0 here p.1) in
          subst (Contains (names_of (load_order program libraries preloads))) (place-name name p.0 p.1)
          (contains-map (λ (o : Named). o.name) (load_order program libraries preloads) (object_at (available program libraries) p.0)
          (contains-map (object_at (available program libraries)) places p.0 in_places))
