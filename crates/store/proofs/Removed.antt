-- Lists without one of their elements, and the positions after it, which move up.
use Rattle.std.proofs.Common.{◌≡◌, ◌≢◌, ⊎_elim, ℕ, zero, suc, ◌+◌, ◌-◌, ◌<◌, List, [], ◌∷◌, length, get_or, map, take, drop, All, refl, sym, ap, ◌∙◌, arith}
use Rattle.std.specs.List.{remove}
use Rattle.std.proofs.lemmas.Bool.{cases_lt}
use Rattle.std.proofs.lemmas.Bool.Decides.{nat_tests}
use Rattle.std.proofs.lemmas.List.Edits.{length-remove, get_or-remove_below, get_or-remove_above}
use Rattle.std.proofs.lemmas.List.Elements.{All-append, All-take, All-drop}
use Rattle.store.specs.inside.NameIndex.{closed_up}

pub drop_none : {A : Type 0} (xs : List A) → drop 0 xs ≡ xs
drop_none [] = refl
drop_none (x ∷ xs) = refl

pub map_remove : {A B : Type 0} (f : A → B) (xs : List A) (gone : ℕ) → map f (remove xs gone) ≡ remove (map f xs) gone
map_remove f [] zero = refl
map_remove f [] (suc gone) = refl
map_remove f (x ∷ xs) zero = ap (map f) (drop_none xs) ∙ sym (drop_none (map f xs))
map_remove f (x ∷ xs) (suc gone) = ap (λ l. f x ∷ l) (map_remove f xs gone)

pub all_remove : {A : Type 0} (P : A → Type 0) (xs : List A) (gone : ℕ) → All P xs → All P (remove xs gone)
all_remove P xs gone all = All-append P (take gone xs) (drop (suc gone) xs) (All-take P gone xs all) (All-drop P (suc gone) xs all)

-- a position before the removed one stays, and one after it is one less
pub closed-below : (gone p : ℕ) → p < gone → closed_up gone p ≡ p
closed-below gone p lt = grind (arith, nat_tests, lt)

pub closed-above : (gone p : ℕ) → gone < p → closed_up gone p ≡ p - 1
closed-above gone p lt = grind (arith, nat_tests, lt)

-- positions other than the removed one are below the new length, and they still differ
pub closed_inside : (gone n p : ℕ) → p ≢ gone → p < n + 1 → gone < n + 1 → closed_up gone p < n
closed_inside gone n p other lt fits = ⊎_elim
    (λ less. omega (arith, closed-below gone p less, less, fits))
    (λ from. let more : gone < p = omega (arith, from, other) in omega (arith, closed-above gone p more, more, lt))
    (cases_lt p gone)

pub closed_apart : (gone a b : ℕ) → a ≢ gone → b ≢ gone → closed_up gone a ≡ closed_up gone b → a ≡ b
closed_apart gone a b other_a other_b same = grind (arith, nat_tests, other_a, other_b, same)

-- an element that was at position `p` is at `closed_up gone p` after the removal
pub at_closed : {A : Type 0} (xs : List A) (gone p : ℕ) (d : A) → p ≢ gone → gone < length xs → get_or (remove xs gone) (closed_up gone p) d ≡ get_or xs p d
at_closed xs gone p d other fits = ⊎_elim
    (λ less. ap (λ k. get_or (remove xs gone) k d) (closed-below gone p less) ∙ get_or-remove_below xs gone d p less fits)
    (λ from.
    let more : gone < p = omega (arith, from, other) in
    let is : p - 1 + 1 ≡ p = omega (arith, more) in
    ap (λ k. get_or (remove xs gone) k d) (closed-above gone p more) ∙ get_or-remove_above xs gone d (p - 1) (omega (arith, more)) fits ∙ ap (λ k. get_or xs k d) is)
    (cases_lt p gone)

-- each element after the removal was at a position other than the removed one
pub stood_at : {A : Type 0} (xs : List A) (gone k : ℕ) → gone < length xs → k < length (remove xs gone)
    → (j : ℕ) × (j < length xs) × (j ≢ gone) × ((d : A) → get_or (remove xs gone) k d ≡ get_or xs j d)
stood_at xs gone k fits lt =
    let fewer = length-remove xs gone fits in
    ⊎_elim
    (λ less. (k, omega (arith, lt, fewer), λ same. omega (arith, same, less), λ d. get_or-remove_below xs gone d k less fits))
    (λ from. (k + 1, omega (arith, lt, fewer), λ same. omega (arith, same, from), λ d. get_or-remove_above xs gone d k from fits))
    (cases_lt k gone)
