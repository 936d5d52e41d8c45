-- Lemmas about the places of needed files among the files of a store, and about needed names that no
-- file has.
use Rattle.std.proofs.Common.{◌≡◌, ◌≢◌, ℕ, ◌+◌, ◌<◌, List, [], ◌∷◌, ◌++◌, length, map, take, get_or, cond, Option, Some, None, refl, sym, ap, ◌∙◌, arith}
use Rattle.std.specs.Prelude.{All, is_none}
use Rattle.std.specs.List.{filter_map, cons_option, find}
use Rattle.std.specs.Option.{option_or}
use Rattle.std.proofs.lemmas.List.{length-map, get_or-map, map-append, take_more}
use Rattle.std.proofs.lemmas.List.Elements.{All-get_or, filter_map-append}
use Rattle.std.proofs.lemmas.List.Folds.{find-append}
use Rattle.store.specs.declared.placed_entry.PlacedEntry.{PlacedEntry}
use Rattle.scope.specs.LoadOrder.{Need, place_of, is_missing}
use Rattle.scope.specs.Queue.{grown_by}
use Rattle.scope.specs.inside.Growing.{grown}
use Rattle.scope.proofs.Growing.{grown-nil, grown-append}
use Rattle.scope.proofs.LoadOrderLemmas.{place_of-is}
use Rattle.scope.proofs.Naming.{place_of-distinct}
use Rattle.store.proofs.UsedAlone.{no_entry}
use Rattle.store.specs.Stands.{HaveOwnNames, name_of}
use Rattle.registry.specs.inside.Walked.{more_needs}
use Rattle.registry.specs.declared.needs.Needs.{Needs}
use Rattle.registry.specs.inside.Named.{placed_name}
use Rattle.store.specs.NameOrder.{entry_names}
use Rattle.registry.proofs.StateNames.{names_distinct}

-- if an entry with the name was found at position `i`, the name's place is i + 1
pub place_some : (entries : List PlacedEntry) → HaveOwnNames entries → (name : List ℕ) (i : ℕ) → (i < length entries) × ((d : PlacedEntry) → name_of (get_or entries i d).entry ≡ name)
    → Some (i + 1) ≡ place_of (entry_names entries) name
place_some entries own name i found =
    let lt : i < length (entry_names entries) = omega (arith, found.0, length-map entries placed_name) in
    let named : get_or (entry_names entries) i [] ≡ name = get_or-map placed_name entries i no_entry [] found.0 ∙ found.1 no_entry in
    sym (place_of-distinct (entry_names entries) i (names_distinct entries own) lt) ∙ ap (place_of (entry_names entries)) named

-- if no entry has the name, the name has no place
pub place_none : (entries : List PlacedEntry) (name : List ℕ) → All (λ placed. name_of placed.entry ≢ name) entries → None ≡ place_of (entry_names entries) name
place_none entries name lacks = by (place_of (entry_names entries) name) refl
  where
    by : (o : Option ℕ) → place_of (entry_names entries) name ≡ o → None ≡ o
    by None is = refl
    by (Some p) is =
        let r = place_of-is (entry_names entries) name p is in
        let lt : r.0 < length entries = omega (arith, r.2, length-map entries placed_name) in
        absurd (All-get_or (λ placed. name_of placed.entry ≢ name) entries r.0 no_entry lt lacks (sym (get_or-map placed_name entries r.0 no_entry [] lt) ∙ r.3))

or-none : {X : Type 0} (o : Option X) → option_or o None ≡ o
or-none None = refl
or-none (Some x) = refl

or-or : {X : Type 0} (a b c : Option X) → option_or (option_or a b) c ≡ option_or a (option_or b c)
or-or None b c = refl
or-or (Some x) b c = refl

-- the needs with the given places, or with the given missing name, instead of their own
abbrev with_places : Needs → List ℕ → Needs
with_places needs places = record { places = record { limit = needs.places.limit; places = places }; missing = needs.missing }

abbrev with_missing : Needs → Option Need → Needs
with_missing needs missing = record { places = needs.places; missing = missing }

module _ (names : List (List ℕ)) (needer : List ℕ) where
  abbrev need_of : List ℕ → Need
  need_of name = record { needer = needer; name = name }

  -- an object that needs no name leaves the needs unchanged
  pub named-nil : (needs : Needs) → needs ≡ more_needs names needs needer []
  named-nil needs = ap (with_places needs) (sym (grown-nil needs.places.places)) ∙ ap (with_missing (more_needs names needs needer [])) (sym (or-none needs.missing))

  -- a needed name that a file has adds the file's place
  pub named-some : (needs : Needs) (name : List ℕ) (p : ℕ) → place_of names name ≡ Some p
      → with_places needs (grown_by needs.places.places p) ≡ more_needs names needs needer (name ∷ [])
  unfolding grown
  named-some needs name p is =
      ap (λ (o : Option ℕ). with_places needs (grown needs.places.places (cons_option o []))) (sym is)
      ∙ ap (with_missing (more_needs names needs needer (name ∷ [])))
      (sym (or-none needs.missing) ∙ ap (λ (o : Option ℕ). option_or needs.missing (cond (is_none o) (Some (need_of name)) None)) (sym is))

  -- a needed name that no file has is noted, unless a name was noted before
  pub named-none : (needs : Needs) (name : List ℕ) → place_of names name ≡ None
      → with_missing needs (option_or needs.missing (Some (need_of name))) ≡ more_needs names needs needer (name ∷ [])
  unfolding grown
  named-none needs name is =
      ap (λ (o : Option ℕ). with_missing (with_places needs (grown needs.places.places (cons_option o []))) (option_or needs.missing (Some (need_of name)))) (sym is)
      ∙ ap (λ (o : Option ℕ). with_missing (more_needs names needs needer (name ∷ [])) (option_or needs.missing (cond (is_none o) (Some (need_of name)) None))) (sym is)

  -- adding the names `xs` and then the names `ys` is the same as adding all of them at once
  more-append : (needs : Needs) (xs ys : List (List ℕ)) → more_needs names (more_needs names needs needer xs) needer ys ≡ more_needs names needs needer (xs ++ ys)
  more-append needs xs ys =
      let first : Option Need = find (is_missing names) (map need_of xs) in
      let second : Option Need = find (is_missing names) (map need_of ys) in
      ap (λ (l : List ℕ). with_missing (with_places needs l) (option_or (option_or needs.missing first) second))
      (sym (grown-append needs.places.places (filter_map (place_of names) xs) (filter_map (place_of names) ys))
      ∙ ap (grown needs.places.places) (sym (filter_map-append (place_of names) xs ys)))
      ∙ ap (with_missing (more_needs names needs needer (xs ++ ys)))
      (or-or needs.missing first second
      ∙ ap (option_or needs.missing)
      (sym (find-append (is_missing names) (map need_of xs) (map need_of ys)) ∙ ap (find (is_missing names)) (sym (map-append need_of xs ys))))

  -- adding the first k names and then name number k is the same as adding the first k + 1 names
  pub named-more : (needs : Needs) (ns : List (List ℕ)) (k : ℕ) (d : List ℕ) → k < length ns
      → more_needs names (more_needs names needs needer (take k ns)) needer (get_or ns k d ∷ []) ≡ more_needs names needs needer (take (k + 1) ns)
  named-more needs ns k d lt = more-append needs (take k ns) (get_or ns k d ∷ []) ∙ ap (more_needs names needs needer) (sym (take_more ns k d lt))
