-- Counts over two lists with entries in common: over all entries of one list, and over the entries that only the other
-- list has.
use Rattle.std.proofs.Common.{◌≡◌, ◌≢◌, ⊎_elim, ℕ, suc, ◌+◌, ◌<◌, nat_eq, true, false, if◌then◌else◌, ◌||◌, List, [], ◌∷◌, length, get_or, sum_by, All, refl, sym, ap, subst, ◌∙◌, arith}
use Rattle.std.proofs.lemmas.Bool.{cases_Bool, cases_lt, eq-eqb, eqb-true, eqb-false, ne_eqb}
use Rattle.std.proofs.lemmas.List.{get_or_default, get_or-map, length-map}
use Rattle.std.proofs.lemmas.List.Folds.{list_any_at, list_any_none}
use Rattle.std.proofs.lemmas.List.Sums.{sum_by-cons}
use Rattle.extents.specs.Extent.{AreDistinct}
use Rattle.store.specs.declared.placed_entry.PlacedEntry.{PlacedEntry}
use Rattle.store.specs.Draft.{lists}
use Rattle.store.specs.Stands.{entry_sectors, sectors_of}
use Rattle.store.specs.inside.Draft.{IsOneOrApart, own_in}

-- two entries at different positions have different sectors
pub same_at : (entries : List PlacedEntry) → AreDistinct (entry_sectors entries) → (i j : ℕ) (d : PlacedEntry) → i < j → j < length entries
    → (get_or entries i d).at ≢ (get_or entries j d).at
same_at entries once i j d less lt same =
    let at = λ (p : PlacedEntry). p.at in
    let count : length (entry_sectors entries) ≡ length entries = simp length-map in
    let before : i < length entries = omega (arith, less, lt) in
    once i j 0 less (omega (arith, lt, count)) (get_or-map at entries i d 0 before ∙ same ∙ sym (get_or-map at entries j d 0 lt))

pub rest_once : (x : PlacedEntry) (entries : List PlacedEntry) → AreDistinct (entry_sectors (x ∷ entries)) → AreDistinct (entry_sectors entries)
rest_once x entries once i j d less lt = once (suc i) (suc j) d (omega (arith, less)) (omega (arith, lt))

-- if the entries' sectors are distinct, no later entry is in the sector of the first
pub first_apart : (x : PlacedEntry) (entries : List PlacedEntry) → AreDistinct (entry_sectors (x ∷ entries)) → All (λ p. x.at ≢ p.at) entries
first_apart x entries once i d lt same = same_at (x ∷ entries) once 0 (suc i) d (omega arith) (omega (arith, lt)) same

fresh : (x : PlacedEntry) (entries : List PlacedEntry) → AreDistinct (entry_sectors (x ∷ entries)) → (p : PlacedEntry) → x.at ≡ p.at → lists entries p ≡ false
fresh x entries once p same = list_any_none (λ (other : PlacedEntry). nat_eq other.at p.at) entries
    (λ i d lt. ne_eqb (get_or entries i d).at p.at (λ is. first_apart x entries once i d lt (same ∙ sym is)))

-- A function `h` that counts sectors, and is 0 for no sectors.
module _ (h : List ℕ → ℕ) (none : h [] ≡ 0) where
  abbrev all_of : PlacedEntry → ℕ
  all_of p = h (sectors_of p)

  -- the count of the sectors of `p` that the list `others` doesn't use
  abbrev beside : List PlacedEntry → PlacedEntry → ℕ
  beside others p = h (own_in others p)

  -- the count of the sectors of `p` if `p` is in the sector of `x`, and otherwise 0
  abbrev there : PlacedEntry → PlacedEntry → ℕ
  there x p = if nat_eq x.at p.at then all_of p else 0

  beside_listed : (others : List PlacedEntry) (p : PlacedEntry) → lists others p ≡ true → beside others p ≡ 0
  beside_listed others p is = ap (λ b. h (if b then [] else sectors_of p)) is ∙ none

  beside_unlisted : (others : List PlacedEntry) (p : PlacedEntry) → lists others p ≡ false → beside others p ≡ all_of p
  beside_unlisted others p is = ap (λ b. h (if b then [] else sectors_of p)) is

  -- one more entry `x` in the list lowers the count of what the list doesn't use by the count of the entries in the
  -- sector of `x`
  one_less : (x : PlacedEntry) (xs ys : List PlacedEntry) → AreDistinct (entry_sectors (x ∷ xs)) → sum_by (beside xs) ys ≡ sum_by (beside (x ∷ xs)) ys + sum_by (there x) ys
  one_less x xs [] once = refl
  one_less x xs (y ∷ ys) once =
      let rest = one_less x xs ys once in
      ⊎_elim
      (λ is.
      let first : beside xs y ≡ all_of y = beside_unlisted xs y (fresh x xs once y (eqb-true x.at y.at is)) in
      let now : beside (x ∷ xs) y ≡ 0 = beside_listed (x ∷ xs) y (ap (λ b. b || lists xs y) is) in
      let its : there x y ≡ all_of y = ap (λ b. if b then all_of y else 0) is in
      omega (arith, rest, first, now, its, sum_by-cons (beside xs) y ys, sum_by-cons (beside (x ∷ xs)) y ys, sum_by-cons (there x) y ys))
      (λ isnt.
      let same : beside (x ∷ xs) y ≡ beside xs y = ap (λ b. h (if b || lists xs y then [] else sectors_of y)) isnt in
      let its : there x y ≡ 0 = ap (λ b. if b then all_of y else 0) isnt in
      omega (arith, rest, same, its, sum_by-cons (beside xs) y ys, sum_by-cons (beside (x ∷ xs)) y ys, sum_by-cons (there x) y ys))
      (cases_Bool (nat_eq x.at y.at))

  nothing_there : (x : PlacedEntry) (ys : List PlacedEntry) → All (λ p. x.at ≢ p.at) ys → sum_by (there x) ys ≡ 0
  nothing_there x [] apart = refl
  nothing_there x (y ∷ ys) apart =
      let its : there x y ≡ 0 = ap (λ b. if b then all_of y else 0) (ne_eqb x.at y.at (apart 0 y (omega arith))) in
      omega (arith, its, nothing_there x ys (λ i d lt. apart (suc i) d (omega (arith, lt))), sum_by-cons (there x) y ys)

  -- the count of the entries in the sector of `x`, and the count of what the list doesn't use of `x`, are together the
  -- count of `x`
  one_there : (x : PlacedEntry) (ys : List PlacedEntry) → AreDistinct (entry_sectors ys) → All (λ p. x.at ≡ p.at → p ≡ x) ys → sum_by (there x) ys + beside ys x ≡ all_of x
  one_there x [] once same = omega arith
  one_there x (y ∷ ys) once same = ⊎_elim
      (λ is.
      let equal : y ≡ x = same 0 y (omega arith) (eqb-true x.at y.at is) in
      let its : there x y ≡ all_of x = ap (λ b. if b then all_of y else 0) is ∙ ap all_of equal in
      let rest = nothing_there x ys (subst (λ p. All (λ (q : PlacedEntry). p.at ≢ q.at) ys) equal (first_apart y ys once)) in
      let listed : beside (y ∷ ys) x ≡ 0 = beside_listed (y ∷ ys) x (ap (λ b. b || lists ys x) (eq-eqb y.at x.at (sym (eqb-true x.at y.at is)))) in
      omega (arith, its, rest, listed, sum_by-cons (there x) y ys))
      (λ isnt.
      let its : there x y ≡ 0 = ap (λ b. if b then all_of y else 0) isnt in
      let other : nat_eq y.at x.at ≡ false = ne_eqb y.at x.at (λ equal. eqb-false x.at y.at isnt (sym equal)) in
      let stays : beside (y ∷ ys) x ≡ beside ys x = ap (λ b. h (if b || lists ys x then [] else sectors_of x)) other in
      omega (arith, its, stays, one_there x ys (rest_once y ys once) (λ i d lt. same (suc i) d (omega (arith, lt))), sum_by-cons (there x) y ys))
      (cases_Bool (nat_eq x.at y.at))

  -- an entry in the sector of `x` is `x`, if `x` is one of the list or apart from it
  one_same : (x : PlacedEntry) (ys : List PlacedEntry) → AreDistinct (entry_sectors ys) → IsOneOrApart ys x → All (λ p. x.at ≡ p.at → p ≡ x) ys
  one_same x ys once one i d lt same =
      let found = one (list_any_at (λ (other : PlacedEntry). nat_eq other.at x.at) ys i d lt (eq-eqb (get_or ys i d).at x.at (sym same))) in
      let its : get_or ys found.0 d ≡ x = get_or_default ys found.0 d x found.1 ∙ found.2 in
      let equal : i ≡ found.0 = tell i found.0 lt found.1 (sym same ∙ ap (λ (p : PlacedEntry). p.at) (sym its)) in
      ap (λ n. get_or ys n d) equal ∙ its
    where
      tell : (i j : ℕ) → i < length ys → j < length ys → (get_or ys i d).at ≡ (get_or ys j d).at → i ≡ j
      tell i j lt lt' same = ⊎_elim
          (λ less. absurd (same_at ys once i j d less lt' same))
          (λ from. ⊎_elim (λ more. absurd (same_at ys once j i d more lt (sym same))) (λ upto. omega (arith, from, upto)) (cases_lt j i))
          (cases_lt i j)

  -- For both lists together, the count is the same, whichever list is counted whole.
  pub swapped : (xs ys : List PlacedEntry) → AreDistinct (entry_sectors xs) → AreDistinct (entry_sectors ys) → All (IsOneOrApart ys) xs
      → sum_by all_of xs + sum_by (beside xs) ys ≡ sum_by all_of ys + sum_by (beside ys) xs
  swapped [] ys once others each = same_sum ys
    where
      same_sum : (l : List PlacedEntry) → 0 + sum_by (beside []) l ≡ sum_by all_of l + 0
      same_sum l = omega arith
  swapped (x ∷ xs) ys once others each =
      let rest = swapped xs ys (rest_once x xs once) others (λ i d lt. each (suc i) d (omega (arith, lt))) in
      omega (
        arith,
        rest,
        one_less x xs ys once,
        one_there x ys others (one_same x ys others (each 0 x (omega arith))),
        sum_by-cons all_of x xs,
        sum_by-cons (beside ys) x xs,
      )
