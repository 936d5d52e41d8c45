-- The indices on a walk that ends, and the progress of a search along it.
use Rattle.std.proofs.Common.{◌≡◌, ◌≢◌, ℕ, ◌<◌, ◌≤◌, ◌+◌, Bool, true, false, cond, List, length, map, take, arith, refl, ◌∙◌, sym, ap, inl, inr, suc, zero, eqb, below_more}
use Rattle.std.specs.Prelude.{not}
use Rattle.std.specs.List.{take_while, prefix_len, range_with_len}
use Rattle.std.proofs.lemmas.Bool.{cases_lt}
use Rattle.std.proofs.lemmas.Bool.Decides.{eqb_tells}
use Rattle.std.proofs.lemmas.List.FromFn.{length-map-range_with_len, take-map-range_with_len}
use Rattle.hash_check.specs.Walk.{walk, Ends}
use Rattle.hash_check.specs.HashTable.{AreIndices}
use Rattle.hash_check.specs.Admission.{walked}
use Rattle.hash_check.specs.Search.{up_to}
use Rattle.hash_check.specs.inside.Places.{Depth}
use Rattle.hash_check.proofs.Walks.{depth-small, depth-from-ends}

-- if a function's values pass a test before position d, and the value at d fails, d values pass at the
-- front
prefix : (p : ℕ → Bool) (f : ℕ → ℕ) (a n d : ℕ) → d < n → ((k : ℕ) → k < d → p (f (a + k)) ≡ true) → p (f (a + d)) ≡ false → prefix_len p (map f (range_with_len a n)) ≡ d
prefix p f a zero d lt before at = absurd (omega arith)
prefix p f a (suc n) zero lt before at =
    let here : p (f a) ≡ false = let e : a + 0 ≡ a = omega arith in ap (λ j. p (f j)) (sym e) ∙ at in
    ap (λ b. cond b (1 + prefix_len p (map f (range_with_len (a + 1) n))) 0) here
prefix p f a (suc n) (suc d) lt before at =
    let here : p (f a) ≡ true = let e : a + 0 ≡ a = omega arith in ap (λ j. p (f j)) (sym e) ∙ before 0 (omega arith) in
    let step : (k : ℕ) → a + 1 + k ≡ a + suc k = λ k. omega arith in
    let rest : prefix_len p (map f (range_with_len (a + 1) n)) ≡ d =
    prefix p f (a + 1) n d (omega arith) (λ k less. ap (λ j. p (f j)) (step k) ∙ before (suc k) (omega arith))
    (ap (λ j. p (f j)) (step d) ∙ at) in
    ap (λ b. cond b (1 + prefix_len p (map f (range_with_len (a + 1) n))) 0) here ∙ omega (arith, rest)

cut : (p : ℕ → Bool) (f : ℕ → ℕ) (a n d : ℕ) → d < n → ((k : ℕ) → k < d → p (f (a + k)) ≡ true) → p (f (a + d)) ≡ false → take_while p (map f (range_with_len a n)) ≡ map f (range_with_len a d)
cut p f a n d lt before at =
    let le : d ≤ n = omega arith in
    ap (λ k. take k (map f (range_with_len a n))) (prefix p f a n d lt before at) ∙ take-map-range_with_len f a n d le

hit : (p : ℕ → Bool) (f : ℕ → ℕ) (a n d : ℕ) → d < n → ((k : ℕ) → k < d → p (f (a + k)) ≡ false) → p (f (a + d)) ≡ true → up_to p (map f (range_with_len a n)) ≡ d + 1
hit p f a zero d lt before at = absurd (omega arith)
hit p f a (suc n) zero lt before at =
    let here : p (f a) ≡ true = let e : a + 0 ≡ a = omega arith in ap (λ j. p (f j)) (sym e) ∙ at in
    ap (λ b. cond b 1 (up_to p (map f (range_with_len (a + 1) n)) + 1)) here
hit p f a (suc n) (suc d) lt before at =
    let here : p (f a) ≡ false = let e : a + 0 ≡ a = omega arith in ap (λ j. p (f j)) (sym e) ∙ before 0 (omega arith) in
    let step : (k : ℕ) → a + 1 + k ≡ a + suc k = λ k. omega arith in
    let rest : up_to p (map f (range_with_len (a + 1) n)) ≡ d + 1 =
    hit p f (a + 1) n d (omega arith) (λ k less. ap (λ j. p (f j)) (step k) ∙ before (suc k) (omega arith)) (ap (λ j. p (f j)) (step d) ∙ at) in
    ap (λ b. cond b 1 (up_to p (map f (range_with_len (a + 1) n)) + 1)) here ∙ omega (arith, rest)

miss : (p : ℕ → Bool) (f : ℕ → ℕ) (a n : ℕ) → ((k : ℕ) → k < n → p (f (a + k)) ≡ false) → up_to p (map f (range_with_len a n)) ≡ n
miss p f a zero before = refl
miss p f a (suc n) before =
    let here : p (f a) ≡ false = let e : a + 0 ≡ a = omega arith in ap (λ j. p (f j)) (sym e) ∙ before 0 (omega arith) in
    let rest : up_to p (map f (range_with_len (a + 1) n)) ≡ n = miss p f (a + 1) n (λ k less. let e : a + 1 + k ≡ a + suc k = omega arith in ap (λ j. p (f j)) e ∙ before (suc k) (omega arith)) in
    ap (λ b. cond b 1 (up_to p (map f (range_with_len (a + 1) n)) + 1)) here ∙ omega (arith, rest)

unequal : (a : ℕ) → a ≢ 0 → eqb a 0 ≡ false
unequal a ne = elim (eqb_tells a 0) [ inl t ↦ absurd (ne t.1) | inr f ↦ f.0 ]

-- if the walk ends after d steps, `walked` has its first d indices
pub walked-is : (c : List ℕ) (from d : ℕ) → AreIndices (length c) c → from < length c → Depth c from d → walked c from ≡ map (walk c from) (range_with_len 0 d)
unfolding walked
walked-is c from d words lt h =
    let bare : (k : ℕ) → 0 + k ≡ k = λ k. omega arith in
    cut (λ i. not (eqb i 0)) (walk c from) 0 (length c) d (depth-small c from d words lt h)
    (λ k less. ap (λ j. not (eqb (walk c from j) 0)) (bare k) ∙ ap not (unequal (walk c from k) (h.before k less)))
    (ap (λ j. not (eqb (walk c from j) 0)) (bare d) ∙ ap (λ w. not (eqb w 0)) h.arrives)

-- a search has compared `n` symbols and found none: they are the first `n` of the walk, before 0
pub record Searching (c : List ℕ) (from n : ℕ) (p : ℕ → Bool) : Type 0 where
  pub before : (k : ℕ) → k < n → walk c from k ≢ 0
  pub missed : (k : ℕ) → k < n → p (walk c from k) ≡ false

pub compared-some : (c : List ℕ) (from n : ℕ) (p : ℕ → Bool) → AreIndices (length c) c → from < length c → Ends c from → Searching c from n p → walk c from n ≢ 0 → n < length (walked c from)
compared-some c from n p words lt ends h some =
    let d = depth-from-ends c from ends in
    let size : length (walked c from) ≡ d.0 = ap length (walked-is c from d.0 words lt d.1) ∙ length-map-range_with_len (walk c from) 0 d.0 in
    elim (cases_lt n d.0) [
      | inl less ↦ omega (arith, size)
      | inr past ↦ elim (cases_lt d.0 n) [
        | inl less ↦ absurd (h.before d.0 less d.1.arrives)
        | inr le ↦ let same : n ≡ d.0 = omega arith in absurd (some (ap (walk c from) same ∙ d.1.arrives))
      ]
    ]

pub compared-most : (c : List ℕ) (from : ℕ) → AreIndices (length c) c → from < length c → Ends c from → length (walked c from) < length c
compared-most c from words lt ends =
    let d = depth-from-ends c from ends in
    let size : length (walked c from) ≡ d.0 = ap length (walked-is c from d.0 words lt d.1) ∙ length-map-range_with_len (walk c from) 0 d.0 in
    omega (arith, size, depth-small c from d.0 words lt d.1)

pub compared-hit : (c : List ℕ) (from n : ℕ) (p : ℕ → Bool) → AreIndices (length c) c → from < length c → Ends c from → Searching c from n p
    → walk c from n ≢ 0 → p (walk c from n) ≡ true → n + 1 ≡ up_to p (walked c from)
compared-hit c from n p words lt ends h some is =
    let d = depth-from-ends c from ends in
    let w = walked-is c from d.0 words lt d.1 in
    let less : n < d.0 = omega (arith, compared-some c from n p words lt ends h some, ap length w, length-map-range_with_len (walk c from) 0 d.0) in
    let bare : (k : ℕ) → 0 + k ≡ k = λ k. omega arith in
    sym (ap (up_to p) w ∙ hit p (walk c from) 0 d.0 n less (λ k lt. ap (λ j. p (walk c from j)) (bare k) ∙ h.missed k lt) (ap (λ j. p (walk c from j)) (bare n) ∙ is))

depth-here : (c : List ℕ) (from n : ℕ) (p : ℕ → Bool) → Searching c from n p → walk c from n ≡ 0 → Depth c from n
depth-here c from n p h z = record { arrives = z; before = h.before }

pub compared-miss : (c : List ℕ) (from n : ℕ) (p : ℕ → Bool) → AreIndices (length c) c → from < length c → Searching c from n p → walk c from n ≡ 0 → n ≡ up_to p (walked c from)
compared-miss c from n p words lt h z =
    let bare : (k : ℕ) → 0 + k ≡ k = λ k. omega arith in
    sym (ap (up_to p) (walked-is c from n words lt (depth-here c from n p h z)) ∙ miss p (walk c from) 0 n (λ k lt. ap (λ j. p (walk c from j)) (bare k) ∙ h.missed k lt))

-- if the next symbol of the walk isn't the one, the search has compared one more and found none
pub searching-more : (c : List ℕ) (from n : ℕ) (p : ℕ → Bool) → Searching c from n p → walk c from n ≢ 0 → p (walk c from n) ≡ false → Searching c from (n + 1) p
searching-more c from n p h some missed = record {
  before = below_more (λ k. walk c from k ≢ 0) n h.before some;
  missed = below_more (λ k. p (walk c from k) ≡ false) n h.missed missed;
}
