-- Walks: their sums and their ends, and why a walk that ends meets no index twice.
use Rattle.std.proofs.Common.{◌≡◌, ◌≢◌, ℕ, ◌<◌, ◌≤◌, ◌+◌, ◌-◌, false, List, length, arith, refl, ◌∙◌, sym, ap, subst, map, suc, zero, zero-add, get_or, eqb, inl, inr}
use Rattle.std.specs.Prelude.{slice_index}
use Rattle.std.specs.List.{range_with_len, IsDistinct}
use Rattle.std.proofs.lemmas.Bool.{cases_lt, cases_eq, eqb-true}
use Rattle.std.proofs.lemmas.Bool.Decides.{eqb_tells}
use Rattle.std.proofs.lemmas.List.FromFn.{get_or-map-range_with_len, length-map-range_with_len}
use Rattle.std.proofs.lemmas.List.Folds.{Any-from_list_any}
use Rattle.std.proofs.lemmas.Map.Keys.{IsDistinct-from_apart}
use Rattle.std.proofs.lemmas.Map.Steps.{length-le_from_distinct_below}
use Rattle.hash_check.specs.Walk.{walk, Ends}
use Rattle.hash_check.specs.HashTable.{AreIndices}
use Rattle.hash_check.specs.inside.Places.{Depth}

pub walk-zero : (c : List ℕ) (v : ℕ) → walk c v 0 ≡ v
unfolding walk
walk-zero c v = refl

pub walk-suc : (c : List ℕ) (v n : ℕ) → walk c v (suc n) ≡ walk c (slice_index c v) n
unfolding walk
walk-suc c v n = refl

pub walk-add : (c : List ℕ) (v m n : ℕ) → walk c v (m + n) ≡ walk c (walk c v m) n
walk-add c v zero n = ap (walk c v) (zero-add n) ∙ ap (λ w. walk c w n) (sym (walk-zero c v))
walk-add c v (suc m) n =
    let e : suc m + n ≡ suc (m + n) = omega arith in
    ap (walk c v) e ∙ walk-suc c v (m + n) ∙ walk-add c (slice_index c v) m n ∙ ap (λ w. walk c w n) (sym (walk-suc c v m))

pub walk-one : (c : List ℕ) (v : ℕ) → walk c v 1 ≡ slice_index c v
unfolding walk
walk-one c v = refl

pub walk-next : (c : List ℕ) (v n : ℕ) → walk c v (n + 1) ≡ slice_index c (walk c v n)
walk-next c v n = walk-add c v n 1 ∙ walk-one c (walk c v n)

-- if every word is an index, a walk from an index meets only indices
pub walk-index : (c : List ℕ) (v n : ℕ) → AreIndices (length c) c → v < length c → walk c v n < length c
walk-index c v zero words lt = rw (walk-zero c v) lt
walk-index c v (suc n) words lt = rw (walk-suc c v n) (walk-index c (slice_index c v) n words (words v 0 lt))

-- if a walk reaches 0 after d steps, the walk from its index number k does so after d - k steps
pub depth-along : (c : List ℕ) (v d k : ℕ) → Depth c v d → k ≤ d → Depth c (walk c v k) (d - k)
depth-along c v d k h le = record {
  arrives = let e : k + (d - k) ≡ d = omega arith in sym (walk-add c v k (d - k)) ∙ ap (walk c v) e ∙ h.arrives;
  before = λ j lt z. let below : k + j < d = omega arith in h.before (k + j) below (walk-add c v k j ∙ z);
}

pub depth-zero : (c : List ℕ) → Depth c 0 0
depth-zero c = record { arrives = walk-zero c 0; before = λ k lt z. absurd (omega arith) }

-- if the walk from the next index ends after e steps, the walk from an index other than 0 ends after e +
-- 1 steps; a walk has only one such number
nonzero-before : (c : List ℕ) (v e : ℕ) → v ≢ 0 → Depth c (slice_index c v) e → (k : ℕ) → k < e + 1 → walk c v k ≢ 0
nonzero-before c v e some h zero lt z = some (sym (walk-zero c v) ∙ z)
nonzero-before c v e some h (suc k) lt z = let below : k < e = omega arith in h.before k below (sym (walk-suc c v k) ∙ z)

pub depth-before : (c : List ℕ) (v e : ℕ) → v ≢ 0 → Depth c (slice_index c v) e → Depth c v (e + 1)
depth-before c v e some h = record {
  arrives = let s : e + 1 ≡ suc e = omega arith in ap (walk c v) s ∙ walk-suc c v e ∙ h.arrives;
  before = nonzero-before c v e some h;
}

pub depth-unique : (c : List ℕ) (v d e : ℕ) → Depth c v d → Depth c v e → d ≡ e
depth-unique c v d e h i = elim (cases_lt d e) [
  | inl below ↦ absurd (i.before d below h.arrives)
  | inr above ↦ elim (cases_lt e d) [
    | inl below ↦ absurd (h.before e below i.arrives)
    | inr same ↦ omega arith
  ]
]

-- a walk that ends reaches 0 a first time
pub depth-from-steps : (c : List ℕ) (v n : ℕ) → walk c v n ≡ 0 → (d : ℕ) × Depth c v d
depth-from-steps c v zero z = (0, subst (λ w. Depth c w 0) (sym (sym (walk-zero c v) ∙ z)) (depth-zero c))
depth-from-steps c v (suc n) z = elim (cases_eq v 0) [
  | inl is ↦ (0, subst (λ w. Depth c w 0) (sym is) (depth-zero c))
  | inr some ↦ let r = depth-from-steps c (slice_index c v) n (sym (walk-suc c v n) ∙ z) in (r.0 + 1, depth-before c v r.0 some r.1)
]

pub depth-from-ends : (c : List ℕ) (v : ℕ) → Ends c v → (d : ℕ) × Depth c v d
depth-from-ends c v h = depth-from-steps c v h.steps h.arrives

-- a walk that ends meets no index twice before its first 0
pub apart : (c : List ℕ) (v d i j : ℕ) → Depth c v d → i < j → j ≤ d → walk c v i ≢ walk c v j
apart c v d i j h lt le e =
    let short : i + (d - j) < d = omega arith in
    let whole : j + (d - j) ≡ d = omega arith in
    h.before (i + (d - j)) short (walk-add c v i (d - j) ∙ ap (λ w. walk c w (d - j)) e ∙ sym (walk-add c v j (d - j)) ∙ ap (walk c v) whole ∙ h.arrives)

met : List ℕ → ℕ → ℕ → List ℕ
met c v d = map (walk c v) (range_with_len 0 (d + 1))

unequal : (a b : ℕ) → a ≢ b → eqb a b ≡ false
unequal a b ne = elim (eqb_tells a b) [ inl t ↦ absurd (ne t.1) | inr f ↦ f.0 ]

met-at : (c : List ℕ) (v d i e : ℕ) → i < d + 1 → get_or (met c v d) i e ≡ walk c v i
unfolding met
met-at c v d i e lt = get_or-map-range_with_len (walk c v) 0 (d + 1) i i e lt (omega arith)

met-length : (c : List ℕ) (v d : ℕ) → length (met c v d) ≡ d + 1
unfolding met
met-length c v d = length-map-range_with_len (walk c v) 0 (d + 1)

-- a walk among n indices ends in fewer than n steps
pub depth-small : (c : List ℕ) (v d : ℕ) → AreIndices (length c) c → v < length c → Depth c v d → d < length c
depth-small c v d words lt h =
    let distinct : IsDistinct eqb (met c v d) = IsDistinct-from_apart eqb (met c v d) (λ i j e less below.
    let room : j < d + 1 = omega (arith, below, met-length c v d) in
    let front : i < d + 1 = omega arith in
    let le : j ≤ d = omega arith in
    ap (λ w. eqb w (get_or (met c v d) j e)) (met-at c v d i e front) ∙ ap (eqb (walk c v i)) (met-at c v d j e room)
    ∙ unequal (walk c v i) (walk c v j) (apart c v d i j h less le)) in
    let most : length (met c v d) ≤ length c = length-le_from_distinct_below (met c v d) (length c) distinct (λ q is.
    let a = Any-from_list_any (eqb q) (met c v d) is in
    let room : a.0 < d + 1 = omega (arith, a.2, met-length c v d) in
    let e : q ≡ walk c v a.0 = eqb-true q a.1 a.4 ∙ sym a.3 ∙ met-at c v d a.0 a.1 room in
    subst (λ w. w < length c) (sym e) (walk-index c v a.0 words lt)) in
    omega (arith, most, met-length c v d)
