-- The needs of a load order: a name is missing among the installed libraries exactly if it is missing
-- among the libraries of the load order.
use Rattle.std.proofs.Common.{◌≡◌, ℕ, zero, suc, ◌+◌, ◌<◌, Bool, true, false, not, cond, List, [], ◌∷◌, length, map, take, drop, get_or, nat_eq, Option, Some, None}
use Rattle.std.proofs.Common.{refl, sym, ap, subst, ◌∙◌, ⊎_elim, arith}
use Rattle.std.specs.Prelude.{is_none, nat_lt}
use Rattle.std.specs.List.{All, Contains, IsDistinct, position_or_len}
use Rattle.std.specs.Option.{option_map}
use Rattle.std.specs.Str.{bytes_eq}
use Rattle.std.proofs.lemmas.Bool.{eqb-false, false≢true}
use Rattle.std.proofs.lemmas.Bool.Decides.{nat_tests}
use Rattle.std.proofs.lemmas.Map.Keys.{apart_from_distinct}
use Rattle.std.proofs.lemmas.List.{length-map}
use Rattle.std.proofs.lemmas.List.Elements.{All-get_or, All-map, Contains-get_or}
use Rattle.std.proofs.lemmas.Slice.Eq.{bytes_eq-Decides}
use Rattle.elf_dynamic.specs.Strings.{needed}
use Rattle.scope.specs.Objects.{Named, file_at}
use Rattle.scope.specs.LoadOrder.{Need, available, names_of, place_of, needs_of, level_0, load_places, load_order, object_at, needed_by, is_missing}
use Rattle.scope.proofs.Apart.{distinct-level_0}
use Rattle.scope.proofs.LevelsLemmas.{joined_levels-closed}
use Rattle.scope.proofs.LoadOrderLemmas.{contains-map, map-contains, contains-cons, in_filter_map, place_of-is, place-name, needs-below, low-level_0, load_order-first, load_order-below, load_order-distinct}

-- ---- names that have a place

-- if an item of a list passes a test, the first item that passes has a position in the list
first-stands : (p : List ℕ → Bool) (xs : List (List ℕ)) (k : ℕ) (d : List ℕ) → k < length xs → p (get_or xs k d) ≡ true → position_or_len p xs < length xs
first-stands p [] k d lt e = absurd (omega (arith, lt))
first-stands p (x ∷ xs) k d lt e = by (p x) refl k lt e (first-stands p xs)
  where
    by : (b : Bool) → p x ≡ b → (k : ℕ) → k < suc (length xs) → p (get_or (x ∷ xs) k d) ≡ true
        → ((k : ℕ) (d : List ℕ) → k < length xs → p (get_or xs k d) ≡ true → position_or_len p xs < length xs)
        → cond (not b) (1 + position_or_len p xs) 0 < suc (length xs)
    by true is k lt e more = omega arith
    by false is zero lt e more = absurd (false≢true (sym is ∙ e))
    by false is (suc k) lt e more = omega (arith, more k d (omega (arith, lt)) e)

-- a name that is in a list of names has a place
there : (names : List (List ℕ)) (name : List ℕ) → Contains names name → is_none (place_of names name) ≡ false
there names name h =
    let lt : position_or_len (bytes_eq name) names < length names =
    first-stands (bytes_eq name) names h.0 name h.1 ((bytes_eq-Decides name (get_or names h.0 name)).1 (sym h.2)) in
    by (nat_lt (position_or_len (bytes_eq name) names) (length names)) (test lt)
  where
    test : position_or_len (bytes_eq name) names < length names → nat_lt (position_or_len (bytes_eq name) names) (length names) ≡ true
    test lt = grind (arith, nat_tests)

    by : (b : Bool) → b ≡ true → is_none (option_map (λ p. p + 1) (cond b (Some (position_or_len (bytes_eq name) names)) None)) ≡ false
    by true e = refl
    by false e = absurd (false≢true e)

-- a name that has a place is in the list of names
stands : (names : List (List ℕ)) (name : List ℕ) (p : ℕ) → place_of names name ≡ Some p → Contains names name
stands names name p e = let r = place_of-is names name p e in subst (Contains names) r.3 (Contains-get_or names r.0 [] r.2)

-- if a name is in both lists or in neither, it has a place in both or in neither
same_place : (names others : List (List ℕ)) (name : List ℕ) → (Contains names name → Contains others name) → (Contains others name → Contains names name)
    → is_none (place_of names name) ≡ is_none (place_of others name)
same_place names others name to from = by (place_of names name) (place_of others name) refl refl
  where
    by : (o q : Option ℕ) → place_of names name ≡ o → place_of others name ≡ q → is_none o ≡ is_none q
    by None None e f = refl
    by (Some p) (Some q) e f = refl
    by (Some p) None e f = sym (there others name (to (stands names name p e))) ∙ ap is_none f
    by None (Some q) e f = sym (ap is_none e) ∙ there names name (from (stands others name q f))

-- ---- the libraries of a load order

module _ (program : List ℕ) (libraries : List Named) (preloads : List ℕ) (low : All (λ p. p < length libraries) preloads) (distinct : IsDistinct nat_eq preloads) where
  abbrev object : ℕ → Named
  object = object_at (available program libraries)

  -- the first place is the program's
  begins : (places : List ℕ) → take (length (level_0 preloads)) places ≡ level_0 preloads → places ≡ 0 ∷ drop 1 places
  begins [] e = absurd (let no : ◌≡◌ {A = List ℕ} [] (level_0 preloads) = e in cc)
  begins (x ∷ xs) e = ap (λ y. y ∷ xs) (ap (λ l. get_or l 0 1) e)

  module _ (rest : List ℕ) (are : load_places program libraries preloads ≡ 0 ∷ rest) where
    -- a place after the first isn't the program's
    above : (x : ℕ) → Contains rest x → x ≡ 0 → ⊥
    above x h is =
        let d = subst (IsDistinct nat_eq) are (load_order-distinct program libraries preloads low distinct) in
        eqb-false 0 (get_or rest h.0 x) (apart_from_distinct nat_eq (0 ∷ rest) 0 (suc h.0) x d (omega arith) (omega (arith, h.1))) (sym is ∙ sym h.2)

    below : (x : ℕ) → Contains rest x → x < length (available program libraries)
    below x h =
        let all = subst (All (λ p. p < length (available program libraries))) are (load_order-below program libraries preloads low distinct) in
        subst (λ y. y < length (available program libraries)) h.2 (All-get_or (λ p. p < length (available program libraries)) (0 ∷ rest) (suc h.0) x (omega (arith, h.1)) all)

    name-installed : (x : ℕ) → (x ≡ 0 → ⊥) → x < length (available program libraries) → Contains (names_of libraries) (object x).name
    name-installed zero some lt = absurd (some refl)
    name-installed (suc k) some lt = Contains-get_or (names_of libraries) k [] (omega (arith, lt, length-map libraries (λ (o : Named). o.name)))

    -- a library of the load order is installed
    is-installed : (name : List ℕ) → Contains (names_of (map object rest)) name → Contains (names_of libraries) name
    is-installed name h =
        let o = map-contains (λ (o : Named). o.name) (map object rest) name h in
        let x = map-contains object rest o.0 o.1 in
        subst (Contains (names_of libraries)) (ap (λ (n : Named). n.name) x.2 ∙ o.2) (name-installed x.0 (above x.0 x.1) (below x.0 x.1))

    -- if an installed library is needed by an object of the load order, the library is in the load order
    is-found : (y : ℕ) (name : List ℕ) → Contains (0 ∷ rest) y → Contains (needed (file_at (available program libraries) y)) name
        → Contains (names_of libraries) name → Contains (names_of (map object rest)) name
    unfolding load_places
    is-found y name at needs h = by (place_of (names_of libraries) name) refl
      where
        by : (o : Option ℕ) → place_of (names_of libraries) name ≡ o → Contains (names_of (map object rest)) name
        by None e = absurd (false≢true (sym (there (names_of libraries) name h) ∙ ap is_none e))
        by (Some p) e =
            let r = place_of-is (names_of libraries) name p e in
            let limit : ℕ = length (available program libraries) in
            let in_places : Contains (load_places program libraries preloads) p =
            joined_levels-closed (needs_of program libraries) limit (needs-below program libraries) limit (level_0 preloads) (low-level_0 program libraries preloads low distinct)
            (distinct-level_0 preloads distinct) (omega arith) y p (subst (λ l. Contains l y) (sym are) at)
            (in_filter_map (place_of (names_of libraries)) (needed (file_at (available program libraries) y)) name p needs e) in
            ⊎_elim
            (λ same. absurd (omega (arith, same, r.1)))
            (λ later. subst (Contains (names_of (map object rest))) (place-name program libraries name p e)
            (contains-map (λ (o : Named). o.name) (map object rest) (object p) (contains-map object rest p later)))
            (contains-cons p 0 rest (subst (λ l. Contains l p) are in_places))

  -- A name that an object of a load order needs is missing among the installed libraries exactly if it is
  -- missing among the libraries of the order.
  pub known : (found : List Named) → load_order program libraries preloads ≡ available program found
      → (o : Named) (name : List ℕ) → Contains (load_order program libraries preloads) o → Contains (needed o.file) name
      → is_none (place_of (names_of libraries) name) ≡ is_none (place_of (names_of found) name)
  unfolding load_order
  known found is o name at needs =
      let rest : List ℕ = drop 1 (load_places program libraries preloads) in
      let are = begins (load_places program libraries preloads) (load_order-first program libraries preloads) in
      let libs : map object rest ≡ found = ap (drop 1) (sym (ap (map object) are) ∙ is) in
      let y = map-contains object (load_places program libraries preloads) o at in
      let needs_y : Contains (needed (file_at (available program libraries) y.0)) name = subst (λ (n : Named). Contains (needed n.file) name) (sym y.2) needs in
      let at_y : Contains (0 ∷ rest) y.0 = subst (λ l. Contains l y.0) are y.1 in
      subst (λ fs. is_none (place_of (names_of libraries) name) ≡ is_none (place_of (names_of fs) name)) libs
      (same_place (names_of libraries) (names_of (map object rest)) name (is-found rest are y.0 name at_y needs_y) (is-installed rest are name))

  -- each need of the load order's objects is missing among the installed libraries exactly if it is
  -- missing among the libraries of the order
  pub all-known : (found : List Named) → load_order program libraries preloads ≡ available program found
      → All (λ o. All (λ need. is_missing (names_of libraries) need ≡ is_missing (names_of found) need) (needed_by o)) (load_order program libraries preloads)
  all-known found is = λ i d lt. each (get_or (load_order program libraries preloads) i d) (Contains-get_or (load_order program libraries preloads) i d lt)
    where
      each : (o : Named) → Contains (load_order program libraries preloads) o → All (λ need. is_missing (names_of libraries) need ≡ is_missing (names_of found) need) (needed_by o)
      each o at = All-map (λ need. is_missing (names_of libraries) need ≡ is_missing (names_of found) need) (λ name. let n : Need = record { needer = o.name; name = name } in n) (needed o.file)
          (λ j d lt. known found is o (get_or (needed o.file) j d) at (Contains-get_or (needed o.file) j d lt))
