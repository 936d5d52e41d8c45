-- The place of a name among distinct names, and the object at a place.
use Rattle.std.proofs.Common.{◌≡◌, ℕ, suc, ◌+◌, ◌<◌, Bool, not, cond, ◌||◌, List, [], ◌∷◌, length, map, get_or, Some, None, ap, ◌∙◌, refl, arith}
use Rattle.std.specs.Prelude.{position, nat_lt}
use Rattle.std.specs.List.{list_any, position_or_len, IsDistinct}
use Rattle.std.specs.Option.{option_map}
use Rattle.std.specs.Str.{bytes_eq}
use Rattle.std.proofs.lemmas.Bool.{lt-ltb}
use Rattle.std.proofs.lemmas.Cmp.{nat_list_eq_equiv}
use Rattle.std.proofs.lemmas.List.{length-map, get_or-map}
use Rattle.std.proofs.lemmas.List.Sums.{position_or_len_is}
use Rattle.std.proofs.lemmas.Map.Keys.{apart_from_distinct}
use Rattle.std.proofs.lemmas.Slice.Eq.{bytes_eq-Decides}
use Rattle.scope.specs.Objects.{Named}
use Rattle.scope.specs.LoadOrder.{place_of, object_at}

module _ {A B : Type 0} (f : A → B) (p : B → Bool) where
  pub list_any_of : (xs : List A) → list_any p (map f xs) ≡ list_any (λ x. p (f x)) xs
  list_any_of [] = refl
  list_any_of (x ∷ xs) = ap (λ b. p (f x) || b) (list_any_of xs)

  position_or_len_of : (xs : List A) → position_or_len p (map f xs) ≡ position_or_len (λ x. p (f x)) xs
  position_or_len_of [] = refl
  position_or_len_of (x ∷ xs) = ap (λ n. cond (not (p (f x))) (1 + n) 0) (position_or_len_of xs)

  pub position_of : (xs : List A) → position p (map f xs) ≡ position (λ x. p (f x)) xs
  position_of xs =
      ap (λ n. cond (nat_lt n (length (map f xs))) (Some n) None) (position_or_len_of xs)
      ∙ ap (λ m. cond (nat_lt (position_or_len (λ x. p (f x)) xs) m) (Some (position_or_len (λ x. p (f x)) xs)) None) (length-map xs f)

-- in a list of distinct names, the place of name number k is k + 1
pub place_of-distinct : (names : List (List ℕ)) (k : ℕ) → IsDistinct bytes_eq names → k < length names → place_of names (get_or names k []) ≡ Some (k + 1)
place_of-distinct names k distinct lt =
    let name : List ℕ = get_or names k [] in
    let is : position_or_len (bytes_eq name) names ≡ k =
    position_or_len_is (bytes_eq name) names k [] (omega (arith, lt))
    (λ j before. nat_list_eq_equiv.symm name (get_or names j []) ∙ apart_from_distinct bytes_eq names j k [] distinct before lt)
    (λ inside. (bytes_eq-Decides name name).1 refl) in
    ap (λ i. option_map (λ p. p + 1) (cond (nat_lt i (length names)) (Some i) None)) is
    ∙ ap (λ b. option_map (λ p. p + 1) (cond b (Some k) None)) (lt-ltb k (length names) lt)

-- the object at place i + 1 of a list is element i of the list without the first element
pub object_later : (first : Named) (rest : List Named) (i : ℕ) (d : Named) → i < length rest → object_at (first ∷ rest) (suc i) ≡ get_or rest i d
object_later first rest i d lt =
    ap (λ n. let o : Named = record { name = n; file = get_or (map (λ (r : Named). r.file) rest) i [] } in o) (get_or-map (λ (r : Named). r.name) rest i d [] lt)
    ∙ ap (λ f. let o : Named = record { name = (get_or rest i d).name; file = f } in o) (get_or-map (λ (r : Named). r.file) rest i d [] lt)
