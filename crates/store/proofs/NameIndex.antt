-- The order of the names of entries.
use Rattle.std.proofs.Common.{◌≡◌, ◌≢◌, ℕ, ◌<◌, ◌≤◌, true, false, All, List, ◌∷◌, [], length, set, get_or, arith, refl, sym, ap, subst, ◌∙◌, ⊎_elim}
use Rattle.std.specs.Cmp.Lexicographic.{slice_cmp}
use Rattle.std.specs.Ordering.{nat_cmp, is_lt}
use Rattle.std.specs.declared.cmp.Ordering.{Ordering}
use Rattle.std.specs.declared.cmp.Ordering.TheVariants.{Less, Equal, Greater}
use Rattle.std.specs.List.Sorted.{IsPartitionedBy, IsPartitionPoint}
use Rattle.std.proofs.lemmas.Bool.{cases_lt, false≢true}
use Rattle.std.proofs.lemmas.Cmp.{nat_list_cmp_total, tied_itself}
use Rattle.std.proofs.lemmas.List.{length-map, get_or-map, get_or_default, map-set, set-get_or}
use Rattle.store.specs.declared.placed_entry.PlacedEntry.{PlacedEntry}
use Rattle.store.specs.Stands.{HaveOwnNames, name_of}
use Rattle.store.specs.NameOrder.{entry_names, name_at, IsOrderOf}
use Rattle.store.specs.inside.NameIndex.{order_to, Index, IsIndex, IsPlace}

-- a name doesn't come before itself
not-less : (a b : List ℕ) → a ≡ b → slice_cmp nat_cmp a b ≡ Less → ⊥
not-less a b same less =
    let tied : slice_cmp nat_cmp a a ≡ Equal = tied_itself nat_list_cmp_total a in
    let wrong : Less ≡ Equal = sym less ∙ ap (λ x. slice_cmp nat_cmp a x) (sym same) ∙ tied in
    absurd (cc)

-- if two places of the order have the same name, they are the same place
pub same_place : (names : List (List ℕ)) (positions : List ℕ) (j k : ℕ) → IsOrderOf names positions → j < length positions → k < length positions
    → name_at names (get_or positions j 0) ≡ name_at names (get_or positions k 0) → j ≡ k
same_place names positions j k order first second same = ⊎_elim
    (λ less. absurd (not-less (name_at names (get_or positions j 0)) (name_at names (get_or positions k 0)) same (order.rise j k 0 less second)))
    (λ from. ⊎_elim
    (λ more. absurd (not-less (name_at names (get_or positions k 0)) (name_at names (get_or positions j 0)) (sym same) (order.rise k j 0 more first)))
    (λ upto. omega (arith, from, upto))
    (cases_lt k j))
    (cases_lt j k)

-- if two positions have the same name, they are the same position
pub same_position : (names : List (List ℕ)) (positions : List ℕ) (i j : ℕ) → IsOrderOf names positions → i < length names → j < length names
    → name_at names i ≡ name_at names j → i ≡ j
same_position names positions i j order first second same =
    let a = order.every i first in
    let b = order.every j second in
    let is_i : get_or positions a.0 0 ≡ i = get_or_default positions a.0 0 i a.1 ∙ a.2 in
    let is_j : get_or positions b.0 0 ≡ j = get_or_default positions b.0 0 j b.1 ∙ b.2 in
    let place : a.0 ≡ b.0 = same_place names positions a.0 b.0 order a.1 b.1 (ap (name_at names) is_i ∙ same ∙ sym (ap (name_at names) is_j)) in
    sym is_i ∙ ap (λ k. get_or positions k 0) place ∙ is_j

pub entry_name : (entries : List PlacedEntry) (i : ℕ) (d : PlacedEntry) → i < length entries → name_at (entry_names entries) i ≡ name_of (get_or entries i d).entry
entry_name entries i d lt = get_or-map (λ (placed : PlacedEntry). name_of placed.entry) entries i d [] lt

pub entry_count : (entries : List PlacedEntry) → length (entry_names entries) ≡ length entries
entry_count entries = length-map entries (λ (placed : PlacedEntry). name_of placed.entry)

-- if the entries' names have an order, the entries have different names
pub own_from_order : (entries : List PlacedEntry) (positions : List ℕ) → IsOrderOf (entry_names entries) positions → HaveOwnNames entries
own_from_order entries positions order i j d less lt same =
    let n = entry_count entries in
    let is : i ≡ j = same_position (entry_names entries) positions i j order (omega (arith, less, lt, n)) (omega (arith, lt, n))
    (entry_name entries i d (omega (arith, less, lt)) ∙ same ∙ sym (entry_name entries j d lt)) in
    omega (arith, is, less)

-- entries that have an index have different names
pub own_names : (entries : List PlacedEntry) (index : Index) → IsIndex entries index → HaveOwnNames entries
own_names entries index h = own_from_order entries index.positions h

pub names_from_own : (entries : List PlacedEntry) → HaveOwnNames entries → (i j : ℕ) → i < j → j < length (entry_names entries) → name_at (entry_names entries) i ≢ name_at (entry_names entries) j
names_from_own [] own i j less lt same = omega (arith, lt)
names_from_own (d ∷ entries) own i j less lt same =
    let here : j < length (d ∷ entries) = omega (arith, lt, entry_count (d ∷ entries)) in
    own i j d less here (sym (entry_name (d ∷ entries) i d (omega (arith, less, here))) ∙ same ∙ entry_name (d ∷ entries) j d here)

-- replacing an entry by one with the same name doesn't change the index
pub replaced : (entries : List PlacedEntry) (index : Index) (i : ℕ) (put d : PlacedEntry) → IsIndex entries index → i < length entries → name_of (get_or entries i d).entry ≡ name_of put.entry
    → IsIndex (set entries i put) index
replaced entries index i put d h lt same =
    let name : name_of put.entry ≡ name_at (entry_names entries) i = sym same ∙ sym (entry_name entries i d lt) in
    let names : entry_names (set entries i put) ≡ entry_names entries =
    map-set (λ (placed : PlacedEntry). name_of placed.entry) entries i put ∙ ap (set (entry_names entries) i) name ∙ set-get_or (entry_names entries) i [] in
    subst (λ l. IsOrderOf l index.positions) (sym names) h

is-less : (o : Ordering) → is_lt o ≡ true → o ≡ Less
is-less Less e = refl
is-less Equal e = absurd (false≢true e)
is-less Greater e = absurd (false≢true e)

-- in the order, the names less than `name` come before all others
pub partitioned : (names : List (List ℕ)) (positions name : List ℕ) → IsOrderOf names positions → IsPartitionedBy (λ position. is_lt (order_to names name position)) positions
partitioned names positions name order i j d le lt before = ⊎_elim
    (λ less. ap is_lt (nat_list_cmp_total.trans (name_at names (get_or positions i d)) (name_at names (get_or positions j d)) name
    (order.rise i j d less lt) (is-less (order_to names name (get_or positions j d)) before)))
    (λ from.
    let is : i ≡ j = omega (arith, from, le) in
    ap (λ k. is_lt (order_to names name (get_or positions k d))) is ∙ before)
    (cases_lt i j)

-- the binary search ends at the place of the name
pub place_from : (names : List (List ℕ)) (positions name : List ℕ) (place : ℕ) → place ≤ length positions
    → IsPartitionPoint (λ position. is_lt (order_to names name position) ≡ true) (λ position. is_lt (order_to names name position) ≡ false) positions place
    → IsPlace names positions name place
place_from names positions name place le point = record {
  within = le;
  before = λ k lt. is-less (order_to names name (get_or positions k 0)) (point.0 k 0 (omega arith) lt);
  behind = λ k from lt. point.1 k 0 from lt;
}

-- the order has a name at the name's place, or nowhere
only-place : (names : List (List ℕ)) (positions name : List ℕ) (place k : ℕ) → IsOrderOf names positions → IsPlace names positions name place
    → k < length positions → name_at names (get_or positions k 0) ≡ name → k ≡ place
only-place names positions name place k order at lt here = ⊎_elim
    (λ early. absurd (not-less (name_at names (get_or positions k 0)) name here (at.before k early)))
    (λ from. ⊎_elim
    (λ late.
    let less : order_to names name (get_or positions place 0) ≡ Less =
    subst (λ n. slice_cmp nat_cmp (name_at names (get_or positions place 0)) n ≡ Less) here (order.rise place k 0 late lt) in
    absurd (false≢true (sym (at.behind place (omega arith) (omega (arith, late, lt))) ∙ ap is_lt less)))
    (λ upto. omega (arith, from, upto))
    (cases_lt place k))
    (cases_lt k place)

-- the order has the position `position` at the place `place`
pub record IsThere (positions : List ℕ) (place position : ℕ) : Type 0 where
  pub within : place < length positions
  pub here : get_or positions place 0 ≡ position

pub there : (names : List (List ℕ)) (positions name : List ℕ) (place i : ℕ) → IsOrderOf names positions → IsPlace names positions name place
    → i < length names → name_at names i ≡ name → IsThere positions place i
there names positions name place i order at lt same =
    let a = order.every i lt in
    let is : get_or positions a.0 0 ≡ i = get_or_default positions a.0 0 i a.1 ∙ a.2 in
    let is_place : a.0 ≡ place = only-place names positions name place a.0 order at a.1 (ap (name_at names) is ∙ same) in
    record { within = omega (arith, is_place, a.1); here = ap (λ k. get_or positions k 0) (sym is_place) ∙ is }

-- if the place of a name has another name, or there is none, no entry has the name
pub absent : (entries : List PlacedEntry) (positions name : List ℕ) (place : ℕ) → IsOrderOf (entry_names entries) positions → IsPlace (entry_names entries) positions name place
    → (place < length positions → name_at (entry_names entries) (get_or positions place 0) ≢ name) → All (λ (placed : PlacedEntry). name_of placed.entry ≢ name) entries
absent entries positions name place order at other k d lt same =
    let named : name_at (entry_names entries) k ≡ name = entry_name entries k d lt ∙ same in
    let found = there (entry_names entries) positions name place k order at (omega (arith, lt, entry_count entries)) named in
    other found.within (ap (name_at (entry_names entries)) found.here ∙ named)
