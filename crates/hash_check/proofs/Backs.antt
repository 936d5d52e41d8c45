-- The order of strings that begin in the same way.
use Rattle.std.proofs.Common.{◌≡◌, ℕ, ◌≤◌, true, false, List, [], ◌∷◌, length, take, arith, refl, ◌∙◌, sym, ap, suc, zero}
use Rattle.std.specs.Cmp.Lexicographic.{slice_cmp}
use Rattle.std.specs.Ordering.{nat_cmp, ordering_then, is_lt}
use Rattle.std.specs.declared.cmp.Ordering.{Ordering}
use Rattle.std.specs.declared.cmp.Ordering.TheVariants.{Less, Equal, Greater}
use Rattle.std.proofs.lemmas.Cmp.{nat_cmp_total, nat_list_cmp_total, tied_itself}
use Rattle.std.proofs.lemmas.List.MinMax.{ranks_by}
use Rattle.std.proofs.lemmas.Map.Keys.{ge_from_not_lt}

first-not-less : (o r : Ordering) → is_lt (ordering_then o r) ≡ false → is_lt o ≡ false
first-not-less Less r h = h
first-not-less Equal r h = refl
first-not-less Greater r h = refl

first-at-least : (a b : ℕ) (r : Ordering) → is_lt (ordering_then (nat_cmp a b) r) ≡ false → b ≤ a
first-at-least a b r h = ge_from_not_lt a b (first-not-less (nat_cmp a b) r h)

tied : (a b : ℕ) (r : Ordering) → a ≡ b → ordering_then (nat_cmp a b) r ≡ r
tied a b r e = ap (λ k. ordering_then (nat_cmp a k) r) (sym e) ∙ ap (λ o. ordering_then o r) (tied_itself nat_cmp_total a)

rest-not-less : (a b : ℕ) (r : Ordering) → a ≡ b → is_lt (ordering_then (nat_cmp a b) r) ≡ false → is_lt r ≡ false
rest-not-less a b r e h = ap is_lt (sym (tied a b r e)) ∙ h

-- if two strings begin with `p`, a string between them in the order begins with `p` too
pub front-stays : (p r s : List ℕ) → is_lt (slice_cmp nat_cmp r p) ≡ false → is_lt (slice_cmp nat_cmp s r) ≡ false → take (length p) s ≡ p → take (length p) r ≡ p
front-stays [] r s low high front = refl
front-stays (x ∷ p) [] s low high front = let wrong : true ≡ false = low in absurd (cc)
front-stays (x ∷ p) (y ∷ r) [] low high front = let wrong : [] ≡ x ∷ p = front in absurd (cc)
front-stays (x ∷ p) (y ∷ r) (z ∷ s) low high front =
    let whole : z ∷ take (length p) s ≡ x ∷ p = front in
    let first : z ≡ x = cc in
    let rest : take (length p) s ≡ p = cc in
    let above : x ≤ y = first-at-least y x (slice_cmp nat_cmp r p) low in
    let below : y ≤ z = first-at-least z y (slice_cmp nat_cmp s r) high in
    let same : y ≡ x = omega (arith, first, above, below) in
    let same_above : z ≡ y = omega (arith, first, same) in
    let tail : take (length p) r ≡ p =
    front-stays p r s (rest-not-less y x (slice_cmp nat_cmp r p) same low) (rest-not-less z y (slice_cmp nat_cmp s r) same_above high) rest in
    ap (λ k. k ∷ take (length p) r) same ∙ ap (λ t. x ∷ t) tail

-- the first n bytes of a string don't come after the string in the order, and the order is transitive
pub front-before : (n : ℕ) (s : List ℕ) → is_lt (slice_cmp nat_cmp s (take n s)) ≡ false
front-before zero [] = refl
front-before zero (x ∷ s) = refl
front-before (suc n) [] = refl
front-before (suc n) (x ∷ s) = ap is_lt (tied x x (slice_cmp nat_cmp s (take n s)) refl) ∙ front-before n s

pub order-through : (a b c : List ℕ) → is_lt (slice_cmp nat_cmp b a) ≡ false → is_lt (slice_cmp nat_cmp c b) ≡ false → is_lt (slice_cmp nat_cmp c a) ≡ false
order-through a b c low high = (ranks_by nat_list_cmp_total (λ (x : List ℕ). x)).chain c b a high low
