-- Lists whose first places are vacant: how a write changes the part after these places.
use Rattle.std.proofs.Common.{◌≡◌, ℕ, ◌+◌, ◌<◌, ◌≤◌, List, [], ◌∷◌, ◌++◌, length, get_or, take, drop, set, sym, ap, ◌∙◌, arith}
use Rattle.std.proofs.lemmas.List.{append_assoc, drop-append-le, drop-drop, drop-set-add, drop-take, drop_at, drop_more, length-append, length-drop, length-take-le, set_at, take-take, take_at}
use borrow.Rule.Slice.PartMut.{put_mid, mid_of}
use Rattle.extents.specs.declared.extent.Extent.{Extent}
use Rattle.extents.proofs.Edits.{nothing}

-- the part after the vacant places, up to the place of a change
behind : (v p : ℕ) (xs ys : List Extent) → v + p ≤ length xs → drop v (take (v + p) xs ++ ys) ≡ take p (drop v xs) ++ ys
behind v p xs ys le =
    drop-append-le v (take (v + p) xs) ys (omega (arith, length-take-le (v + p) xs le)) ∙ ap (λ l. l ++ ys) (drop-take v p xs)

-- an element is removed, and those above it move down
pub taken_out : (v p : ℕ) (xs : List Extent) → v + p < length xs
    → drop v (take (v + p) xs ++ drop (v + p + 1) xs) ≡ take p (drop v xs) ++ drop (p + 1) (drop v xs)
taken_out v p xs lt =
    let next : v + p + 1 ≡ v + (p + 1) = omega arith in
    behind v p xs (drop (v + p + 1) xs) (omega (arith, lt))
    ∙ ap (λ l. take p (drop v xs) ++ l) (ap (λ n. drop n xs) next ∙ sym (drop-drop (p + 1) v xs))

-- an element is inserted, and those above it move up
pub put_in : (v p : ℕ) (xs : List Extent) (x : Extent) → v + p ≤ length xs
    → drop v (take (v + p) xs ++ x ∷ drop (v + p) xs) ≡ take p (drop v xs) ++ x ∷ drop p (drop v xs)
put_in v p xs x le = behind v p xs (x ∷ drop (v + p) xs) le ∙ ap (λ l. take p (drop v xs) ++ x ∷ l) (sym (drop-drop p v xs))

-- a write in the middle keeps the length
length_written : (a k : ℕ) (xs ys : List Extent) → a + k ≤ length xs → length ys ≡ k → length (put_mid a k xs ys) ≡ length xs
length_written a k xs ys le is = omega (
  arith,
  is,
  le,
  length-append (take a xs) (ys ++ drop k (drop a xs)),
  length-append ys (drop k (drop a xs)),
  length-take-le a xs (omega (arith, le)),
  length-drop k (drop a xs),
  length-drop a xs,
)

-- a vector in the middle of which elements were written holds exactly what was written
pub written : (a k n : ℕ) (xs ys more : List Extent) → a + k ≤ length xs → length ys ≡ k → length xs ≡ n
    → take n (put_mid a k xs ys ++ more) ≡ put_mid a k xs ys
written a k n xs ys more le is size = take_at (put_mid a k xs ys) more n (length_written a k xs ys le is ∙ size)

-- the last of the middle part becomes the first, and its place is vacant afterwards
pub moved_up : (v p k n : ℕ) (xs ys : List Extent) → v + p < length xs → k ≡ p + 1 → n ≡ p → ys ≡ drop n (mid_of v k xs) ++ take n (mid_of v k xs)
    → drop (v + 1) (put_mid v k xs ys) ≡ take p (drop v xs) ++ drop (p + 1) (drop v xs)
moved_up v p k n xs ys lt size at turned =
    let l = drop v xs in
    let inside : p < length l = omega (arith, lt, length-drop v xs) in
    let last : drop p (take (p + 1) l) ≡ get_or l p nothing ∷ [] = drop-take p 1 l ∙ ap (take 1) (drop_more l p nothing inside) in
    let is : ys ≡ get_or l p nothing ∷ take p l =
    turned
    ∙ ap (λ i. drop n (take i l) ++ take n (take i l)) size
    ∙ ap (λ i. drop i (take (p + 1) l) ++ take i (take (p + 1) l)) at
    ∙ ap (λ front. front ++ take p (take (p + 1) l)) last
    ∙ ap (λ back. get_or l p nothing ∷ back) (take-take p (p + 1) l (omega arith)) in
    sym (drop-drop 1 v (put_mid v k xs ys))
    ∙ ap (drop 1) (drop_at (take v xs) (ys ++ drop k l) v (length-take-le v xs (omega (arith, lt))))
    ∙ ap (λ zs. drop 1 (zs ++ drop k l)) is
    ∙ ap (λ i. take p l ++ drop i l) size

-- the first of the middle part becomes the last, and is overwritten
pub moved_down : (v w p k : ℕ) (xs ys : List Extent) (x : Extent) → w + 1 ≡ v → w + p < length xs → k ≡ p + 1
    → ys ≡ drop 1 (mid_of w k xs) ++ take 1 (mid_of w k xs)
    → drop w (set (put_mid w k xs ys) (w + p) x) ≡ take p (drop v xs) ++ x ∷ drop p (drop v xs)
moved_down v w p k xs ys x next lt size turned =
    let l = drop w xs in
    let some : 0 < length l = omega (arith, lt, length-drop w xs) in
    let first = get_or l 0 nothing in
    let behind_is : drop 1 l ≡ drop v xs = drop-drop 1 w xs ∙ ap (λ n. drop n xs) next in
    let more : k ≡ 1 + p = omega (arith, size) in
    let back : take 1 (take k l) ≡ first ∷ [] = take-take 1 k l (omega (arith, size)) ∙ ap (take 1) (drop_more l 0 nothing some) in
    let front : drop 1 (take k l) ≡ take p (drop v xs) = ap (λ n. drop 1 (take n l)) more ∙ drop-take 1 p l ∙ ap (take p) behind_is in
    let above : drop k l ≡ drop p (drop v xs) = ap (λ n. drop n l) more ∙ sym (drop-drop p 1 l) ∙ ap (drop p) behind_is in
    let is : ys ≡ take p (drop v xs) ++ first ∷ [] = turned ∙ ap (λ l'. l' ++ take 1 (take k l)) front ∙ ap (λ l'. take p (drop v xs) ++ l') back in
    drop-set-add w (put_mid w k xs ys) p x
    ∙ ap (λ zs. set zs p x)
    (drop_at (take w xs) (ys ++ drop k l) w (length-take-le w xs (omega (arith, lt)))
    ∙ ap (λ zs. zs ++ drop k l) is
    ∙ append_assoc (take p (drop v xs)) (first ∷ []) (drop k l))
    ∙ set_at (take p (drop v xs)) first (drop k l) x p (length-take-le p (drop v xs) (omega (arith, next, lt, length-drop v xs)))
    ∙ ap (λ zs. take p (drop v xs) ++ x ∷ zs) above
