-- The text of missing names is the same whether the names are those of all installed libraries or of the
-- libraries that were found.
use Rattle.std.proofs.Common.{◌≡◌, List, ℕ, [], ◌∷◌, ◌++◌, ap, refl}
use Rattle.std.specs.Prelude.{All, codes, if◌then◌else◌}
use Rattle.std.specs.List.{flat_map}
use Rattle.std.proofs.lemmas.List.Elements.{All-head, All-tail}
use Rattle.scope.specs.LoadOrder.{Need, is_missing, needed_by}
use Rattle.scope.specs.Objects.{Named}
use Rattle.bindings.specs.Bindings.{name_line, needs_line}
use Rattle.bindings.specs.Dependencies.{dependencies_text, found_text, missing_line, need_text}

flat-same : {X : Type 0} (f g : X → List ℕ) (P : X → Type 0) → ((x : X) → P x → f x ≡ g x) → (xs : List X) → All P xs → flat_map f xs ≡ flat_map g xs
flat-same f g P each [] all = refl
flat-same f g P each (x ∷ xs) all = (λ i. each x (All-head P x xs all) i ++ flat-same f g P each xs (All-tail P x xs all) i)

module _ (names others : List (List ℕ)) where
  -- a need is missing among `names` exactly if it is missing among `others`
  abbrev Same : Need → Type 0
  Same need = is_missing names need ≡ is_missing others need

  need-same : (need : Need) → Same need → need_text names need ≡ need_text others need
  need-same need h = ap (λ b. needs_line need.name ++ (if b then missing_line need else [])) h

  found-same : (o : Named) → All Same (needed_by o) → found_text names o ≡ found_text others o
  unfolding found_text
  found-same o all = ap (λ t. name_line (codes "found ") o.name ++ t) (flat-same (need_text names) (need_text others) Same need-same (needed_by o) all)

  pub texts-same : (order : List Named) → All (λ o. All Same (needed_by o)) order → dependencies_text names order ≡ dependencies_text others order
  unfolding dependencies_text
  texts-same order all = ap (λ t. t ++ codes "end\n") (flat-same (found_text names) (found_text others) (λ o. All Same (needed_by o)) found-same order all)
