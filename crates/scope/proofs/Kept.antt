-- The definitions that are kept for numbers are those that lookup finds.
use Rattle.std.proofs.Common.{◌≡◌, ◌≢◌, ℕ, ◌<◌, ◌≤◌, ◌+◌, true, false, cond, List, [], ◌∷◌, ◌++◌, length, map, replicate, arith, refl, sym, ap, ◌∙◌, subst}
use Rattle.std.proofs.Common.{get_or, set, Option, Some, None, inl, inr, ⊎_elim}
use Rattle.std.specs.Prelude.{is_none, is_some}
use Rattle.std.specs.List.{All}
use Rattle.std.specs.Option.{option_map}
use Rattle.std.proofs.lemmas.Bool.{cases_lt, cases_eq, false≢true, eq-eqb, ne_eqb}
use Rattle.std.proofs.Math.Seq.{get_or-append_seam}
use Rattle.std.proofs.Math.ListN.{get_or-eq_default}
use Rattle.std.proofs.lemmas.List.{get_or-replicate, length-replicate, get_or_append_left, length-set, get_or-set_other, get_or-set_same, get_or-map, length-map}
use Rattle.elf_file.specs.FirstOf.{first_of}
use Rattle.elf_file.specs.Dynamic.{is_symbolic}
use Rattle.elf_dynamic.specs.Strings.{name_of}
use Rattle.hash_check.specs.Export.{is_exported}
use Rattle.hash_check.specs.Definition.{definition_of}
use Rattle.hash_check.specs.Numbered.{nth_symbol, name_in, AreNumbered}
use Rattle.hash_check.specs.declared.numbered.NumberedSymbol.{NumberedSymbol}
use Rattle.hash_check.proofs.Exported.{exported_some, exported_within}
use Rattle.hash_check.proofs.SharedNames.{exported-as, named-as, as-exported}
use Rattle.hash_check.proofs.Definitions.{definition-one, definition-absent}
use Rattle.scope.specs.Objects.{Named, IsTaken, file_at}
use Rattle.scope.specs.Lookup.{all_places, definition_at, lookup}
use Rattle.scope.specs.declared.target.Target.{Target}
use Rattle.scope.specs.declared.target.Target.TheVariants.{Zero, At}
use Rattle.scope.specs.inside.Definitions.{files_of, IsExported, nth_target, IsKept, IsOneOf, AreFirst, AreLast, AreUpTo, own_of, own_definition}
use Rattle.scope.proofs.FirstOf.{none_from, some_from}

not-none : {X : Type 0} (o : Option X) (x : X) → o ≡ None → o ≡ Some x → ⊥
not-none o x a b = false≢true (ap is_none (sym b ∙ a))

some-is : {X : Type 0} (a b : X) → Some a ≡ Some b → a ≡ b
some-is a b e = ap (λ o. elim o as (λ _. _) [ Some x ↦ x | None ↦ a ]) e

abbrev place_of_target : Target → ℕ
place_of_target Zero = 0
place_of_target (At p s) = p

own-none : (p : ℕ) → own_of p None ≡ None
unfolding own_of
own-none p = refl

own-here : (p o s : ℕ) → o ≡ p → own_of p (Some (At o s)) ≡ Some (At p s)
unfolding own_of
own-here p o s e = ap (λ b. cond b (Some (At o s)) None) (eq-eqb o p e) ∙ ap (λ x. Some (At x s)) e

own-other : (p o s : ℕ) → o ≢ p → own_of p (Some (At o s)) ≡ None
unfolding own_of
own-other p o s e = ap (λ b. cond b (Some (At o s)) None) (ne_eqb o p e)

-- If no definition is kept, none is kept for any number.
kept-none : (n k : ℕ) → nth_target (replicate n None) k ≡ None
kept-none n k =
    let none : Option Target = None in
    ⊎_elim (λ inside. get_or-replicate n k none none inside)
    (λ behind. get_or-eq_default (replicate n none) none (omega (arith, behind, length-replicate n none))) (cases_lt k n)

-- for a symbolic object, lookup finds the definition that the object itself exports
pub found-own : (objects : List Named) (object : ℕ) (name : List ℕ) (x : Target) → is_symbolic (file_at objects object) ≡ true → definition_at objects name object ≡ Some x
    → Some x ≡ lookup objects object name
unfolding lookup
found-own objects object name x symbolic own =
    sym (ap (λ b. first_of (map (definition_at objects name) (cond b (object ∷ all_places objects) (all_places objects)))) symbolic
    ∙ ap (λ (o : Option Target). first_of (o ∷ map (definition_at objects name) (all_places objects))) own)

pub found-some : (objects : List Named) (object : ℕ) (name : List ℕ) (o : Option Target) → is_some o ≡ true → is_symbolic (file_at objects object) ≡ true
    → definition_at objects name object ≡ o → o ≡ lookup objects object name
found-some objects object name None is symbolic own = absurd (false≢true is)
found-some objects object name (Some x) is symbolic own = found-own objects object name x symbolic own

pub is-none : (o : Option Target) → is_some o ≡ false → o ≡ None
is-none None is = refl
is-none (Some x) is = absurd (false≢true (sym is))

pub found-plain : (objects : List Named) (object : ℕ) (name : List ℕ) → is_symbolic (file_at objects object) ≡ false
    → first_of (map (definition_at objects name) (all_places objects)) ≡ lookup objects object name
unfolding lookup
found-plain objects object name plain =
    sym (ap (λ b. first_of (map (definition_at objects name) (cond b (object ∷ all_places objects) (all_places objects)))) plain)

pub found-later : (objects : List Named) (object : ℕ) (name : List ℕ) → is_symbolic (file_at objects object) ≡ true → definition_at objects name object ≡ None
    → first_of (map (definition_at objects name) (all_places objects)) ≡ lookup objects object name
unfolding lookup
found-later objects object name symbolic none =
    sym (ap (λ b. first_of (map (definition_at objects name) (cond b (object ∷ all_places objects) (all_places objects)))) symbolic
    ∙ ap (λ (o : Option Target). first_of (o ∷ map (definition_at objects name) (all_places objects))) none)

-- the file of object number p is that of the element at p
pub file-is : (objects : List Named) (p : ℕ) (o : Named) → p < length objects → o ≡ get_or objects p o → file_at objects p ≡ o.file
file-is objects p o lt is = get_or-map (λ (x : Named). x.file) objects p o [] lt ∙ ap (λ (x : Named). x.file) (sym is)

module _ (objects : List Named) (all : List NumberedSymbol) where
  kept-other : (kept : List (Option Target)) (n m at : ℕ) (x : Option Target) → n ≢ m → IsKept objects all kept m at → IsKept objects all (set kept n x) m at
  kept-other kept n m at x other is = record {
    within = is.within;
    exported = is.exported;
    told = is.told;
    is = get_or-set_other kept n m x None (λ e. other (sym e)) ∙ is.is;
  }

  kept-here : (kept : List (Option Target)) (k : ℕ) → k < length all → IsExported objects (nth_symbol all k) → (nth_symbol all k).number < length kept
      → IsKept objects all (set kept (nth_symbol all k).number (Some (At (nth_symbol all k).object (nth_symbol all k).symbol))) (nth_symbol all k).number k
  kept-here kept k lt exported room = record {
    within = lt;
    exported = exported;
    told = refl;
    is = get_or-set_same kept (nth_symbol all k).number (Some (At (nth_symbol all k).object (nth_symbol all k).symbol)) None room;
  }

  one-more : (kept : List (Option Target)) (count n : ℕ) → IsOneOf objects all count kept n → IsOneOf objects all (count + 1) kept n
  one-more kept count n one = elim one [ inl none ↦ inl none | inr is ↦ inr (is.0, omega (arith, is.1), is.2) ]

  -- after one more symbol was kept, the definition of each number is absent or among the first k + 1
  -- symbols
  one-new : (kept : List (Option Target)) (k : ℕ) → k < length all → IsExported objects (nth_symbol all k) → (nth_symbol all k).number < length kept → ((n : ℕ) → IsOneOf objects all k kept n)
      → (n : ℕ) → IsOneOf objects all (k + 1) (set kept (nth_symbol all k).number (Some (At (nth_symbol all k).object (nth_symbol all k).symbol))) n
  one-new kept k lt exported room each n =
      let told : ℕ = (nth_symbol all k).number in
      let x : Option Target = Some (At (nth_symbol all k).object (nth_symbol all k).symbol) in
      elim (cases_eq (nth_symbol all k).number n) [
        | inl same ↦ inr (k, omega arith, subst (λ m. IsKept objects all (set kept told x) m k) same (kept-here kept k lt exported room))
        | inr other ↦ elim (each n) [
          | inl none ↦ inl (get_or-set_other kept told n x None (λ e. other (sym e)) ∙ none)
          | inr is ↦ inr (is.0, omega (arith, is.1), kept-other kept told n is.0 x other is.2)
        ]
      ]

  module _ (kept : List (Option Target)) (is : kept ≡ replicate (length all + 1) None) where
    size-none : length kept ≡ length all + 1
    size-none = ap length is ∙ length-replicate (length all + 1) None

    each-none : (n : ℕ) → IsOneOf objects all 0 kept n
    each-none n = inl (ap (λ l. nth_target l n) is ∙ kept-none (length all + 1) n)

    pub first-none : AreFirst objects all 0 kept
    first-none = record { size = size-none; each = each-none; known = λ k lt. absurd (omega (arith, lt)) }

    pub last-none : AreLast objects all 0 kept
    last-none = record { size = size-none; each = each-none; known = λ k lt. absurd (omega (arith, lt)) }

  -- if symbol number k was kept because its number had no definition, the kept definitions are the first
  -- ones
  pub first-new : (kept : List (Option Target)) (k : ℕ) → k < length all → AreFirst objects all k kept → IsExported objects (nth_symbol all k) → (nth_symbol all k).number < length kept
      → nth_target kept (nth_symbol all k).number ≡ None
      → AreFirst objects all (k + 1) (set kept (nth_symbol all k).number (Some (At (nth_symbol all k).object (nth_symbol all k).symbol)))
  first-new kept k lt first exported room none =
      let told : ℕ = (nth_symbol all k).number in
      let x : Option Target = Some (At (nth_symbol all k).object (nth_symbol all k).symbol) in
      record {
        size = length-set kept told x ∙ first.size;
        each = one-new kept k lt exported room first.each;
        known = λ j le also. elim (cases_lt j k) [
          | inl before ↦
              let is = first.known j before also in
              let other : (nth_symbol all k).number ≢ (nth_symbol all j).number =
              λ e. not-none (nth_target kept (nth_symbol all j).number) (At (nth_symbol all is.0).object (nth_symbol all is.0).symbol) (ap (nth_target kept) (sym e) ∙ none) is.2.is in
              (is.0, is.1, kept-other kept told (nth_symbol all j).number is.0 x other is.2)
          | inr at ↦
              let same : k ≡ j = omega (arith, at, le) in
              (k, omega (arith, same), subst (λ i. IsKept objects all (set kept told x) (nth_symbol all i).number k) same (kept-here kept k lt exported room))
        ];
      }

  -- if symbol number k was kept in place of any before, the kept definitions are the last ones
  pub last-new : (kept : List (Option Target)) (k : ℕ) → k < length all → AreLast objects all k kept → IsExported objects (nth_symbol all k) → (nth_symbol all k).number < length kept
      → AreLast objects all (k + 1) (set kept (nth_symbol all k).number (Some (At (nth_symbol all k).object (nth_symbol all k).symbol)))
  last-new kept k lt last exported room =
      let told : ℕ = (nth_symbol all k).number in
      let x : Option Target = Some (At (nth_symbol all k).object (nth_symbol all k).symbol) in
      record {
        size = length-set kept told x ∙ last.size;
        each = one-new kept k lt exported room last.each;
        known = λ j le also. elim (cases_eq (nth_symbol all k).number (nth_symbol all j).number) [
          | inl same ↦ (k, omega (arith, le), subst (λ m. IsKept objects all (set kept told x) m k) same (kept-here kept k lt exported room))
          | inr other ↦ elim (cases_lt j k) [
            | inl before ↦
                let is = last.known j before also in
                (is.0, is.1, kept-other kept told (nth_symbol all j).number is.0 x other is.2)
            | inr at ↦
                let same : k ≡ j = omega (arith, at, le) in
                absurd (other (ap (λ i. (nth_symbol all i).number) same))
          ]
        ];
      }

  module _ (numbered : AreNumbered (files_of objects) all) where
    -- if the list has no exported symbol of an object with this name, the object doesn't define the name
    absent : (place : ℕ) (name : List ℕ) → place < length objects
        → ((m : ℕ) → m < length all → (nth_symbol all m).object ≡ place → IsExported objects (nth_symbol all m) → name_in (files_of objects) (nth_symbol all m) ≡ name → ⊥)
        → definition_of (file_at objects place) name ≡ None
    absent place name lt none =
        let file : List ℕ = file_at objects place in
        sym (definition-absent file name (λ i is.
        let exported = exported-as (file_at objects place) name i is in
        let named = named-as (file_at objects place) name i is in
        let some = exported_some (file_at objects place) i exported in
        let within = exported_within (file_at objects place) i exported in
        let h = numbered.are.every place i (omega (arith, lt, length-map objects (λ (o : Named). o.file))) some within in
        none h.at h.within h.object
        (ap (λ o. is_exported (file_at objects o) (nth_symbol all h.at).symbol) h.object ∙ ap (is_exported (file_at objects place)) h.symbol ∙ exported)
        (ap (λ o. name_of (file_at objects o) (nth_symbol all h.at).symbol) h.object ∙ ap (name_of (file_at objects place)) h.symbol ∙ named)))

    pub inside : (at : ℕ) → at < length all → (nth_symbol all at).object < length objects
    inside at lt = omega (arith, (numbered.are.each at lt).there, length-map objects (λ (o : Named). o.file))

    module _ (taken : All (λ (o : Named). IsTaken o.file) objects) where
      -- an exported symbol is its object's definition of its own name
      defines : (at : ℕ) (name : List ℕ) → at < length all → IsExported objects (nth_symbol all at) → name_in (files_of objects) (nth_symbol all at) ≡ name
          → definition_of (file_at objects (nth_symbol all at).object) name ≡ Some (nth_symbol all at).symbol
      defines at name lt exported named =
          let place : ℕ = (nth_symbol all at).object in
          let d : Named = record { name = []; file = [] } in
          let file : file_at objects (nth_symbol all at).object ≡ (get_or objects (nth_symbol all at).object d).file =
          get_or-map (λ (o : Named). o.file) objects place d [] (inside at lt) in
          let is : IsTaken (file_at objects (nth_symbol all at).object) = subst IsTaken (sym file) (taken (nth_symbol all at).object d (inside at lt)) in
          sym (definition-one (file_at objects place) name (nth_symbol all at).symbol is.unique (as-exported (file_at objects place) name (nth_symbol all at).symbol exported named))

      -- the definition kept for a symbol's number is the first definition of its name in load order
      pub first-found : (kept : List (Option Target)) (k : ℕ) → k < length all → AreFirst objects all (length all) kept
          → nth_target kept (nth_symbol all k).number ≡ first_of (map (definition_at objects (name_in (files_of objects) (nth_symbol all k))) (all_places objects))
      first-found kept k lt first =
          let name : List ℕ = name_in (files_of objects) (nth_symbol all k) in
          let told : ℕ = (nth_symbol all k).number in
          let known : (m : ℕ) → m < length all → IsExported objects (nth_symbol all m) → name_in (files_of objects) (nth_symbol all m) ≡ name_in (files_of objects) (nth_symbol all k)
          → (at : ℕ) × (at ≤ m) × IsKept objects all kept (nth_symbol all k).number at =
          λ m within exported named.
          let is = first.known m within exported in
          (is.0, is.1, subst (λ n. IsKept objects all kept n is.0) (numbered.one m k within lt named) is.2) in
          elim (first.each (nth_symbol all k).number) [
            | inl none ↦
                none ∙ sym (none_from (definition_at objects name) (length objects) 0
                (λ p ge below. ap (option_map (At p)) (absent p name (omega (arith, below))
                (λ m within at exported named. let is = known m within exported named in not-none (nth_target kept told) (At (nth_symbol all is.0).object (nth_symbol all is.0).symbol) none is.2.is))))
            | inr is ↦
                let at : ℕ = is.0 in
                let here = is.2 in
                let place : ℕ = (nth_symbol all is.0).object in
                let e : 0 + (nth_symbol all is.0).object ≡ (nth_symbol all is.0).object = omega arith in
                here.is ∙ sym (some_from (definition_at objects name) place (length objects) 0 (At place (nth_symbol all at).symbol) (inside is.0 is.1)
                (λ p ge below. ap (option_map (At p)) (absent p name (omega (arith, below, inside is.0 is.1))
                (λ m within there exported named.
                let other = known m within exported named in
                let same : At (nth_symbol all is.0).object (nth_symbol all is.0).symbol ≡ At (nth_symbol all other.0).object (nth_symbol all other.0).symbol =
                some-is (At place (nth_symbol all at).symbol) (At (nth_symbol all other.0).object (nth_symbol all other.0).symbol) (sym here.is ∙ other.2.is) in
                let objects_same : (nth_symbol all is.0).object ≡ (nth_symbol all other.0).object = ap place_of_target same in
                let rises : (nth_symbol all other.0).object ≤ (nth_symbol all m).object = numbered.are.rising other.0 m other.1 within in
                absurd (omega (arith, below, there, objects_same, rises)))))
                (ap (definition_at objects name) e
                ∙ ap (option_map (At place)) (defines at name is.1 here.exported (numbered.same at k is.1 lt here.told))))
          ]

      -- if the definition kept for a symbol's number belongs to the symbol's object, it is this object's
      -- definition of the name; otherwise the object doesn't define the name
      pub own-found : (kept : List (Option Target)) (count k : ℕ) → k < length all → AreLast objects all count kept → AreUpTo all count (nth_symbol all k).object
          → own_of (nth_symbol all k).object (nth_target kept (nth_symbol all k).number) ≡ own_definition objects (nth_symbol all k)
      own-found kept count k lt last up_to =
          let name : List ℕ = name_in (files_of objects) (nth_symbol all k) in
          let place : ℕ = (nth_symbol all k).object in
          let known : (m : ℕ) → m < length all → (nth_symbol all m).object ≡ (nth_symbol all k).object → IsExported objects (nth_symbol all m)
          → name_in (files_of objects) (nth_symbol all m) ≡ name_in (files_of objects) (nth_symbol all k)
          → (at : ℕ) × (m ≤ at) × IsKept objects all kept (nth_symbol all k).number at =
          λ m within there exported named.
          let before : m < count = elim (cases_lt m count) [ inl less ↦ less | inr more ↦ absurd (omega (arith, there, up_to.high m more within)) ] in
          let is = last.known m before exported in
          (is.0, is.1, subst (λ n. IsKept objects all kept n is.0) (numbered.one m k within lt named) is.2) in
          elim (last.each (nth_symbol all k).number) [
            | inl none ↦
                ap (own_of place) none ∙ own-none place
                ∙ sym (ap (option_map (At place)) (absent place name (inside k lt)
                (λ m within there exported named.
                let is = known m within there exported named in
                not-none (nth_target kept (nth_symbol all k).number) (At (nth_symbol all is.0).object (nth_symbol all is.0).symbol) none is.2.is)))
            | inr is ↦
                let at : ℕ = is.0 in
                let here = is.2 in
                ap (own_of place) here.is ∙ (elim (cases_eq (nth_symbol all is.0).object (nth_symbol all k).object) [
                  | inl same ↦
                      own-here place (nth_symbol all at).object (nth_symbol all at).symbol same
                      ∙ sym (ap (option_map (At place)) (sym (ap (λ p. definition_of (file_at objects p) name) same)
                      ∙ defines at name here.within here.exported (numbered.same at k here.within lt here.told)))
                  | inr other ↦
                      own-other place (nth_symbol all at).object (nth_symbol all at).symbol other
                      ∙ sym (ap (option_map (At place)) (absent place name (inside k lt)
                      (λ m within there exported named.
                      let is2 = known m within there exported named in
                      let same : At (nth_symbol all is.0).object (nth_symbol all is.0).symbol ≡ At (nth_symbol all is2.0).object (nth_symbol all is2.0).symbol =
                      some-is (At (nth_symbol all at).object (nth_symbol all at).symbol) (At (nth_symbol all is2.0).object (nth_symbol all is2.0).symbol) (sym here.is ∙ is2.2.is) in
                      let objects_same : (nth_symbol all is.0).object ≡ (nth_symbol all is2.0).object = ap place_of_target same in
                      let rises : (nth_symbol all m).object ≤ (nth_symbol all is2.0).object = numbered.are.rising m is2.0 is2.1 is2.2.within in
                      let low : (nth_symbol all is.0).object ≤ (nth_symbol all k).object = up_to.low is.0 is.1 in
                      other (omega (arith, there, objects_same, rises, low)))))
                ])
          ]

-- if the list is right for the first `at` symbols, and the right definition is appended, it is right for
-- one symbol more
pub own-more : (objects : List Named) (all : List NumberedSymbol) (own : List (Option Target)) (at : ℕ) (x : Option Target) → length own ≡ at
    → ((k : ℕ) → k < at → nth_target own k ≡ own_definition objects (nth_symbol all k)) → x ≡ own_definition objects (nth_symbol all at)
    → (k : ℕ) → k < at + 1 → nth_target (own ++ x ∷ []) k ≡ own_definition objects (nth_symbol all k)
own-more objects all own at x size known is k lt = elim (cases_lt k at) [
  | inl before ↦ get_or_append_left own (x ∷ []) None k (omega (arith, before, size)) ∙ known k before
  | inr here ↦
      let same : k ≡ length own = omega (arith, here, lt, size) in
      let also : at ≡ k = omega (arith, here, lt) in
      ap (λ i. nth_target (own ++ x ∷ []) i) same ∙ get_or-append_seam own x [] None ∙ is ∙ ap (λ i. own_definition objects (nth_symbol all i)) also
]
