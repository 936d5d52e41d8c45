-- The order of names with one more name.
use Rattle.std.proofs.Common.{◌≡◌, ◌≢◌, ℕ, ◌+◌, ◌<◌, All, false, List, ◌∷◌, ◌++◌, [], length, get_or, arith, refl, sym, ap, subst, ◌∙◌, ⊎_elim}
use Rattle.std.specs.List.{insert}
use Rattle.std.specs.Cmp.Lexicographic.{slice_cmp}
use Rattle.std.specs.Ordering.{nat_cmp, ordering_reverse, is_lt}
use Rattle.std.specs.declared.cmp.Ordering.{Ordering}
use Rattle.std.specs.declared.cmp.Ordering.TheVariants.{Less, Equal, Greater}
use Rattle.std.proofs.lemmas.Bool.{cases_lt, false≢true}
use Rattle.std.proofs.lemmas.Cmp.{nat_list_cmp_total}
use Rattle.std.proofs.lemmas.List.{length_push, map_push, get_or_append_left, get_or_push, get_or_default}
use Rattle.std.proofs.lemmas.List.Edits.{length-insert}
use Rattle.std.proofs.lemmas.List.Elements.{Contains-append_right}
use Rattle.std.proofs.lemmas.List.Sorted.{IsPermutation-insert, Contains-permutation}
use Rattle.std.proofs.lemmas.Map.Lookups.{exact_bytes}
use Rattle.store.specs.declared.placed_entry.PlacedEntry.{PlacedEntry}
use Rattle.store.specs.Stands.{name_of}
use Rattle.store.specs.NameOrder.{entry_names, name_at, name_order, IsOrderOf}
use Rattle.store.specs.inside.NameIndex.{order_to, IsPlace}
use Rattle.store.proofs.Inserted.{all_insert, all_pairs_insert}
use Rattle.store.proofs.NameIndex.{entry_name, entry_count}

module _ (names : List (List ℕ)) (name : List ℕ) where
  named-before : (p : ℕ) → p < length names → name_at (names ++ name ∷ []) p ≡ name_at names p
  named-before p lt = get_or_append_left names (name ∷ []) [] p lt

  named-last : name_at (names ++ name ∷ []) (length names) ≡ name
  named-last = get_or_push names name [] (length names) refl

  -- one more name at the end doesn't change the order of two earlier positions
  still-less : (a b : ℕ) → a < length names → b < length names → name_order names a b ≡ Less → name_order (names ++ name ∷ []) a b ≡ Less
  still-less a b first second less =
      ap (λ n. slice_cmp nat_cmp n (name_at (names ++ name ∷ []) b)) (named-before a first)
      ∙ ap (slice_cmp nat_cmp (name_at names a)) (named-before b second) ∙ less

  -- if the name at a position comes before the new name, the position comes before the new one in the order
  before-new : (p : ℕ) → p < length names → order_to names name p ≡ Less → name_order (names ++ name ∷ []) p (length names) ≡ Less
  before-new p lt less =
      ap (λ n. slice_cmp nat_cmp n (name_at (names ++ name ∷ []) (length names))) (named-before p lt)
      ∙ ap (slice_cmp nat_cmp (name_at names p)) named-last ∙ less

  behind-new : (p : ℕ) → p < length names → slice_cmp nat_cmp name (name_at names p) ≡ Less → name_order (names ++ name ∷ []) (length names) p ≡ Less
  behind-new p lt less =
      ap (λ n. slice_cmp nat_cmp n (name_at (names ++ name ∷ []) p)) named-last
      ∙ ap (slice_cmp nat_cmp name) (named-before p lt) ∙ less

turned : (o r : Ordering) → o ≡ ordering_reverse r → is_lt r ≡ false → (r ≡ Equal → ⊥) → o ≡ Less
turned o Less is other differ = absurd (false≢true (sym other))
turned o Equal is other differ = absurd (differ refl)
turned o Greater is other differ = is

-- if `a` doesn't come before `b` and isn't `b`, `b` comes before `a`
comes-before : (a b : List ℕ) → is_lt (slice_cmp nat_cmp a b) ≡ false → a ≢ b → slice_cmp nat_cmp b a ≡ Less
comes-before a b behind other =
    turned (slice_cmp nat_cmp b a) (slice_cmp nat_cmp a b) (nat_list_cmp_total.antisymm b a) behind (λ equal. other (exact_bytes a b equal))

-- inserting the new position at the place of its name makes an order of all names
inserted-names : (names : List (List ℕ)) (positions name : List ℕ) (place : ℕ) → IsOrderOf names positions → IsPlace names positions name place
    → ((i : ℕ) → i < length names → name_at names i ≢ name) → IsOrderOf (names ++ name ∷ []) (insert positions place (length names))
inserted-names names positions name place order at absent =
    let n : length (names ++ name ∷ []) ≡ length names + 1 = length_push names name in
    let old : All (λ p. p < length (names ++ name ∷ [])) positions = λ k d lt. omega (arith, n, order.within k d lt) in
    record {
      size = length-insert positions place (length names) at.within ∙ ap (λ k. k + 1) order.size ∙ sym n;
      within = all_insert (λ p. p < length (names ++ name ∷ [])) positions place (length names) (omega (arith, n)) old;
      every = λ p lt.
          Contains-permutation (length names ∷ positions) (insert positions place (length names)) p (IsPermutation-insert positions place (length names))
          (⊎_elim
          (λ less. Contains-append_right (length names ∷ []) positions p (order.every p less))
          (λ from. (0, omega arith, omega (arith, n, from, lt)))
          (cases_lt p (length names)));
      rise = all_pairs_insert (λ a b. name_order (names ++ name ∷ []) a b ≡ Less) positions place (length names) at.within
          (λ j k d less lt. still-less names name (get_or positions j d) (get_or positions k d) (order.within j d (omega (arith, less, lt))) (order.within k d lt) (order.rise j k d less lt))
          (λ k d early.
          let lt : k < length positions = omega (arith, early, at.within) in
          before-new names name (get_or positions k d) (order.within k d lt)
          (ap (order_to names name) (get_or_default positions k d 0 lt) ∙ at.before k early))
          (λ k d late lt.
          let here : name_at names (get_or positions k d) ≡ name_at names (get_or positions k 0) = ap (name_at names) (get_or_default positions k d 0 lt) in
          behind-new names name (get_or positions k d) (order.within k d lt)
          (ap (slice_cmp nat_cmp name) here ∙ comes-before (name_at names (get_or positions k 0)) name (at.behind k late lt) (absent (get_or positions k 0) (order.within k 0 lt))));
    }

-- inserting the position of an entry that is put after the others makes an order of all entries
pub inserted : (entries : List PlacedEntry) (positions name : List ℕ) (place : ℕ) → IsOrderOf (entry_names entries) positions → IsPlace (entry_names entries) positions name place
    → All (λ (placed : PlacedEntry). name_of placed.entry ≢ name) entries → (put : PlacedEntry) → name_of put.entry ≡ name
    → IsOrderOf (entry_names (entries ++ put ∷ [])) (insert positions place (length entries))
inserted entries positions name place order at absent put named =
    let names : entry_names (entries ++ put ∷ []) ≡ entry_names entries ++ name ∷ [] =
    map_push (λ (placed : PlacedEntry). name_of placed.entry) entries put ∙ ap (λ n. entry_names entries ++ n ∷ []) named in
    subst (λ l. IsOrderOf l (insert positions place (length entries))) (sym names)
    (subst (λ n. IsOrderOf (entry_names entries ++ name ∷ []) (insert positions place n)) (entry_count entries)
    (inserted-names (entry_names entries) positions name place order at
    (λ i lt same. absent i put (omega (arith, lt, entry_count entries)) (sym (entry_name entries i put (omega (arith, lt, entry_count entries))) ∙ same))))
