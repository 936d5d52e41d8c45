-- The first name that isn't installed.
use Rattle.std.proofs.Common.{◌≡◌, ℕ, suc, ◌+◌, ◌<◌, Bool, true, false, cond, List, [], ◌∷◌, ◌++◌, length, map, take, drop, get_or, Option, Some, None, refl, sym, ap, ◌∙◌}
use Rattle.std.specs.Prelude.{is_none}
use Rattle.std.specs.Option.{option_map, option_or}
use Rattle.std.specs.List.{find, filter_map, cons_option}
use Rattle.std.proofs.Math.Seq.{drop-cons}
use Rattle.std.proofs.lemmas.List.{take-append-drop, take_more}
use Rattle.std.proofs.lemmas.List.Folds.{find-append}
use Rattle.elf_dynamic.specs.Strings.{needed}
use Rattle.scope.specs.Objects.{Named}
use Rattle.std.proofs.lemmas.List.Elements.{filter_map-append}
use Rattle.scope.specs.LoadOrder.{Need, place_of, needed_by, is_missing}
use Rattle.scope.specs.Queue.{grown_by}
use Rattle.scope.specs.inside.Growing.{grown}
use Rattle.scope.proofs.Growing.{grown-push}

abbrev pub is_absent : List (List ℕ) → List ℕ → Bool
is_absent names name = is_none (place_of names name)

module _ {X : Type 0} (p : X → Bool) where
  -- if the first i elements don't pass and the next one doesn't, the first i + 1 don't; and if an
  -- element is the first to pass, `find` returns it
  pub find-more : (xs : List X) (i : ℕ) (d : X) → i < length xs → find p (take i xs) ≡ None → p (get_or xs i d) ≡ false → find p (take (i + 1) xs) ≡ None
  find-more xs i d lt none not_it =
      ap (find p) (take_more xs i d lt) ∙ find-append p (take i xs) (get_or xs i d ∷ [])
      ∙ ap (λ o. option_or o (cond (p (get_or xs i d)) (Some (get_or xs i d)) None)) none
      ∙ ap (λ b. cond b (Some (get_or xs i d)) None) not_it

  pub find-here : (xs : List X) (i : ℕ) (d : X) → i < length xs → find p (take i xs) ≡ None → p (get_or xs i d) ≡ true → find p xs ≡ Some (get_or xs i d)
  find-here xs i d lt none it =
      ap (find p) (sym (take-append-drop i xs)) ∙ find-append p (take i xs) (drop i xs)
      ∙ ap (λ o. option_or o (find p (drop i xs))) none
      ∙ ap (find p) (drop-cons xs i d lt)
      ∙ ap (λ b. cond b (Some (get_or xs i d)) (find p (drop (suc i) xs))) it

module _ {X Y : Type 0} (f : X → Y) (p : Y → Bool) where
  chosen : (b : Bool) (x : X) (rest : Option X) → cond b (Some (f x)) (option_map f rest) ≡ option_map f (cond b (Some x) rest)
  chosen true x rest = refl
  chosen false x rest = refl

  find-map : (xs : List X) → find p (map f xs) ≡ option_map f (find (λ x. p (f x)) xs)
  find-map [] = refl
  find-map (x ∷ xs) =
      ap (λ o. cond (p (f x)) (Some (f x)) o) (find-map xs) ∙ chosen (p (f x)) x (find (λ x. p (f x)) xs)

-- the first missing need of an object is its first needed name that isn't installed, with the object's
-- name
pub missing-by : (names : List (List ℕ)) (object : Named)
    → find (is_missing names) (needed_by object) ≡ option_map (λ name. record { needer = object.name; name = name }) (find (is_absent names) (needed object.file))
missing-by names object = find-map (λ name. let n : Need = record { needer = object.name; name = name } in n) (is_missing names) (needed object.file)

-- if the next needed name is installed, adding its place to the queue adds the needs up to this name
pub needs-more : (places : List ℕ) (names needs : List (List ℕ)) (k p : ℕ) (d : List ℕ) → k < length needs → place_of names (get_or needs k d) ≡ Some p
    → grown places (filter_map (place_of names) (take (k + 1) needs)) ≡ grown_by (grown places (filter_map (place_of names) (take k needs))) p
needs-more places names needs k p d lt is =
    ap (λ l. grown places (filter_map (place_of names) l)) (take_more needs k d lt)
    ∙ ap (grown places) (filter_map-append (place_of names) (take k needs) (get_or needs k d ∷ []) ∙ ap (λ o. filter_map (place_of names) (take k needs) ++ cons_option o []) is)
    ∙ grown-push places (filter_map (place_of names) (take k needs)) p
