-- The order of names without one of them.
use Rattle.std.proofs.Common.{◌≡◌, ◌≢◌, ℕ, ◌+◌, ◌<◌, All, AllPairs, Contains, List, ◌∷◌, [], length, map, get_or, arith, sym, ap, subst, ◌∙◌, ⊎_elim}
use Rattle.std.specs.List.{remove}
use Rattle.std.specs.Cmp.Lexicographic.{slice_cmp}
use Rattle.std.specs.Ordering.{nat_cmp}
use Rattle.std.specs.declared.cmp.Ordering.TheVariants.{Less}
use Rattle.std.proofs.lemmas.Bool.{cases_lt}
use Rattle.std.proofs.lemmas.List.{length-map, get_or-map, get_or_default}
use Rattle.std.proofs.lemmas.List.Edits.{length-remove, get_or-remove_below, get_or-remove_above}
use Rattle.std.proofs.lemmas.List.Elements.{All-map, Contains-append_cases}
use Rattle.std.proofs.lemmas.List.Sorted.{IsPermutation-remove, Contains-permutation}
use Rattle.std.proofs.lemmas.List.Quantifiers.{all_pairs_remove}
use Rattle.store.specs.declared.placed_entry.PlacedEntry.{PlacedEntry}
use Rattle.store.specs.Stands.{name_of}
use Rattle.store.specs.NameOrder.{entry_names, name_at, name_order, IsOrderOf}
use Rattle.store.specs.inside.NameIndex.{closed_up}
use Rattle.store.proofs.NameIndex.{IsThere, same_place}
use Rattle.store.proofs.Removed.{map_remove, closed-below, closed-above, closed_inside, at_closed}

only-one : (a q : ℕ) → Contains (a ∷ []) q → a ≡ q
only-one a q found =
    let first : found.0 ≡ 0 = omega (arith, found.1) in
    ap (λ k. get_or (a ∷ []) k q) (sym first) ∙ found.2

-- each element of a list without element `i` was at another place than `i`
elsewhere : {X : Type 0} (xs : List X) (i k : ℕ) (d : X) → i < length xs → k < length (remove xs i) → (j : ℕ) × (j < length xs) × (j ≢ i) × (get_or (remove xs i) k d ≡ get_or xs j d)
elsewhere xs i k d lt within = ⊎_elim
    (λ low. (k, omega (arith, low, lt), (λ is. omega (arith, is, low)), get_or-remove_below xs i d k low lt))
    (λ from. (k + 1, omega (arith, within, length-remove xs i lt), (λ is. omega (arith, is, from)), get_or-remove_above xs i d k from lt))
    (cases_lt k i)

module _ (names : List (List ℕ)) (positions : List ℕ) (place gone : ℕ) (order : IsOrderOf names positions) (at : IsThere positions place gone) where
  inside : gone < length names
  inside = subst (λ p. p < length names) at.here (order.within place 0 at.within)

  -- the other positions are positions of names, and none of them is the removed one
  others : All (λ p. (p < length names) × (p ≢ gone)) (remove positions place)
  others k d lt =
      let from = elsewhere positions place k d at.within lt in
      let here : get_or (remove positions place) k d ≡ get_or positions from.0 0 = from.3 ∙ get_or_default positions from.0 d 0 from.1 in (
        subst (λ p. p < length names) (sym from.3) (order.within from.0 d from.1),
        λ is. from.2 (same_place names positions from.0 place order from.1 at.within (ap (name_at names) (sym here ∙ is ∙ sym at.here))),
      )

  -- a name is at the position to which its old position moved
  named-closed : (p : ℕ) → p ≢ gone → name_at (remove names gone) (closed_up gone p) ≡ name_at names p
  named-closed p other = at_closed names gone p [] other inside

  closed-within : (p : ℕ) → p < length names → p ≢ gone → closed_up gone p < length (remove names gone)
  closed-within p lt other =
      let n = length-remove names gone inside in
      closed_inside gone (length (remove names gone)) p other (omega (arith, lt, n)) (omega (arith, inside, n))

  still-contained : (p q : ℕ) → closed_up gone q ≡ p → q < length names → q ≢ gone → Contains (map (closed_up gone) (remove positions place)) p
  still-contained p q is lt other =
      let was : Contains (gone ∷ remove positions place) q =
      Contains-permutation positions (gone ∷ remove positions place) q
      (IsPermutation-remove positions place gone at.within (sym at.here ∙ get_or_default positions place 0 gone at.within)) (order.every q lt) in
      ⊎_elim
      (λ first. absurd (other (sym (only-one gone q first))))
      (λ rest. (
        rest.0,
        omega (arith, rest.1, length-map (remove positions place) (closed_up gone)),
        get_or-map (closed_up gone) (remove positions place) rest.0 q p rest.1 ∙ ap (closed_up gone) rest.2 ∙ is,
      ))
      (Contains-append_cases (gone ∷ []) (remove positions place) q was)

  all-contained : (p : ℕ) → p < length (remove names gone) → Contains (map (closed_up gone) (remove positions place)) p
  all-contained p lt =
      let n = length-remove names gone inside in
      ⊎_elim
      (λ less. still-contained p p (closed-below gone p less) (omega (arith, lt, n)) (λ is. omega (arith, is, less)))
      (λ from. still-contained p (p + 1) (closed-above gone (p + 1) (omega (arith, from)) ∙ omega arith) (omega (arith, lt, n)) (λ is. omega (arith, is, from)))
      (cases_lt p gone)

  still-rising : AllPairs (λ a b. name_order (remove names gone) a b ≡ Less) (map (closed_up gone) (remove positions place))
  still-rising j k d less lt =
      let n = length-map (remove positions place) (closed_up gone) in
      let high : k < length (remove positions place) = omega (arith, lt, n) in
      let low : j < length (remove positions place) = omega (arith, less, high) in
      let first = others j 0 low in
      let second = others k 0 high in
      let is_a : name_at (remove names gone) (get_or (map (closed_up gone) (remove positions place)) j d) ≡ name_at names (get_or (remove positions place) j 0) =
      ap (name_at (remove names gone)) (get_or-map (closed_up gone) (remove positions place) j 0 d low) ∙ named-closed (get_or (remove positions place) j 0) first.1 in
      let is_b : name_at (remove names gone) (get_or (map (closed_up gone) (remove positions place)) k d) ≡ name_at names (get_or (remove positions place) k 0) =
      ap (name_at (remove names gone)) (get_or-map (closed_up gone) (remove positions place) k 0 d high) ∙ named-closed (get_or (remove positions place) k 0) second.1 in
      ap (λ x. slice_cmp nat_cmp x (name_at (remove names gone) (get_or (map (closed_up gone) (remove positions place)) k d))) is_a
      ∙ ap (slice_cmp nat_cmp (name_at names (get_or (remove positions place) j 0))) is_b
      ∙ all_pairs_remove (λ x y. name_order names x y ≡ Less) positions place at.within order.rise j k 0 less high

  removed-names : IsOrderOf (remove names gone) (map (closed_up gone) (remove positions place))
  removed-names = record {
    size =
        let n = length-remove names gone inside in
        let m = length-remove positions place at.within in
        let l = length-map (remove positions place) (closed_up gone) in
        omega (arith, n, m, l, order.size);
    within = All-map (λ p. p < length (remove names gone)) (closed_up gone) (remove positions place)
        (λ k d lt. let other = others k d lt in closed-within (get_or (remove positions place) k d) other.0 other.1);
    every = all-contained;
    rise = still-rising;
  }

-- removing an entry and its position makes an order of the other entries
pub removed : (entries : List PlacedEntry) (positions : List ℕ) (place gone : ℕ) → IsOrderOf (entry_names entries) positions → IsThere positions place gone
    → IsOrderOf (entry_names (remove entries gone)) (map (closed_up gone) (remove positions place))
removed entries positions place gone order at =
    subst (λ l. IsOrderOf l (map (closed_up gone) (remove positions place))) (sym (map_remove (λ (placed : PlacedEntry). name_of placed.entry) entries gone))
    (removed-names (entry_names entries) positions place gone order at)
