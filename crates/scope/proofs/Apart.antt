-- Distinct places, and the flags of the places in a queue.
use Rattle.std.proofs.Common.{◌≡◌, ℕ, ◌+◌, ◌<◌, ◌≤◌, eqb, nat_eq, Bool, true, false, ◌||◌, List, [], ◌∷◌, ◌++◌, length, take, get_or, set, Some}
use Rattle.std.proofs.Common.{replicate, map, sym, ap, subst, ◌∙◌, refl, arith, length-take, length-append, append_assoc, append-nil, fold}
use Rattle.std.proofs.Common.{if◌then◌else◌}
use Rattle.std.specs.List.{All, AllByRecursion, IsDistinct, list_any}
use Rattle.std.specs.Cmp.{IsEquivalence}
use Rattle.std.proofs.Math.Seq.{get_or-append_seam, take-append_seam}
use Rattle.std.proofs.lemmas.Bool.{eqb-true, eqb-false, ne_eqb}
use Rattle.std.proofs.lemmas.Cmp.{nat_eq_equiv}
use Rattle.std.proofs.lemmas.List.{length-set, get_or-set_same, get_or-set_other, get_or-replicate, get_or-take, length-replicate}
use Rattle.std.proofs.lemmas.List.Elements.{All-push, All-pop, All-from_get_or}
use Rattle.std.proofs.lemmas.List.Folds.{list_any-append, list_any_none, Any-from_list_any}
use Rattle.std.proofs.lemmas.Map.Keys.{IsDistinct-push, apart_from_distinct}
use Rattle.std.proofs.lemmas.Map.Steps.{length-le_from_distinct_below}
use Rattle.indexmap.proofs.MapLemmas.{distinct-take}
use Rattle.scope.specs.Levels.{is_among}
use Rattle.scope.specs.LoadOrder.{level_0}
use Rattle.scope.specs.Queue.{grown_by, AreApart}
use Rattle.scope.specs.inside.Growing.{grown}
use Rattle.scope.specs.inside.Places.{AreTold}

-- there are no more distinct places below a limit than the limit says
pub few : (limit : ℕ) (places : List ℕ) → AreApart limit places → length places ≤ limit
few limit places apart =
    length-le_from_distinct_below places limit apart.distinct (λ q there.
    let any = Any-from_list_any (eqb q) places there in
    subst (λ p. p < limit) (any.3 ∙ sym (eqb-true q any.1 any.4)) (apart.below any.0 any.1 any.2))

-- if all flags are false, they are right for an empty queue
pub told-none : (n : ℕ) → AreTold (replicate n false) []
unfolding IsDistinct
told-none n = record {
  told = λ p lt. get_or-replicate n p false false (omega (arith, lt, length-replicate n false));
  apart = record { below = λ k d lt. absurd (omega (arith, lt)); distinct = tt };
}

or_true : (a : Bool) → true ≡ (a || true)
or_true true = refl
or_true false = refl

or_false : (a : Bool) → a ≡ (a || false)
or_false true = refl
or_false false = refl

-- if the flag of a new place is set and the place is appended, the flags stay right
pub told-more : (flags : List Bool) (places : List ℕ) (p : ℕ) → AreTold flags places → p < length flags → get_or flags p false ≡ false
    → AreTold (set flags p true) (places ++ p ∷ [])
told-more flags places p told lt fresh = record {
  told = λ q ltq. by q (omega (arith, ltq, length-set flags p true)) (eqb q p) refl;
  apart = record {
    below = All-push (λ r. r < length (set flags p true)) places p
        (subst (λ n. All (λ r. r < n) places) (sym (length-set flags p true)) told.apart.below) (omega (arith, lt, length-set flags p true));
    distinct = IsDistinct-push nat_eq_equiv places p told.apart.distinct (sym (told.told p lt) ∙ fresh);
  };
}
  where
    by : (q : ℕ) → q < length flags → (b : Bool) → eqb q p ≡ b → get_or (set flags p true) q false ≡ is_among (places ++ p ∷ []) q
    by q ltq true e =
        ap (λ k. get_or (set flags p true) k false) (eqb-true q p e) ∙ get_or-set_same flags p true false lt
        ∙ or_true (is_among places q) ∙ ap (λ b. is_among places q || (b || false)) (sym e)
        ∙ sym (list_any-append (λ x. eqb q x) places (p ∷ []))
    by q ltq false e =
        get_or-set_other flags p q true false (eqb-false q p e) ∙ told.told q ltq
        ∙ or_false (is_among places q) ∙ ap (λ b. is_among places q || (b || false)) (sym e)
        ∙ sym (list_any-append (λ x. eqb q x) places (p ∷ []))

-- in a list of distinct keys, no key is among those before it
pub distinct-front : {K : Type 0} {eq : K → K → Bool} → IsEquivalence eq → (ks : List K) (i : ℕ) (d : K) → IsDistinct eq ks → i < length ks
    → list_any (eq (get_or ks i d)) (take i ks) ≡ false
distinct-front {K} {eq} laws ks i d distinct lt =
    list_any_none (eq (get_or ks i d)) (take i ks)
    (All-from_get_or (λ x. eq (get_or ks i d) x ≡ false) (take i ks) d (λ k ltk.
    let before : k < i = omega (arith, ltk, length-take i ks) in
    ap (eq (get_or ks i d)) (get_or-take i ks k d before) ∙ laws.symm (get_or ks i d) (get_or ks k d) ∙ apart_from_distinct eq ks k i d distinct before lt))

-- in a list of distinct places that ends with `q`, `q` isn't among the places before
fresh_last : (ps : List ℕ) (q : ℕ) → IsDistinct nat_eq (ps ++ q ∷ []) → is_among ps q ≡ false
fresh_last ps q distinct =
    ap (λ k. is_among ps k) (sym (get_or-append_seam ps q [] 0))
    ∙ ap (λ l. is_among l (get_or (ps ++ q ∷ []) (length ps) 0)) (sym (take-append_seam ps (q ∷ [])))
    ∙ distinct-front nat_eq_equiv (ps ++ q ∷ []) (length ps) 0 distinct (omega (arith, length-append ps (q ∷ [])))

-- if the last place and its flag are removed, the flags stay right, because the place occurs only once
pub told-fewer : (flags : List Bool) (places : List ℕ) (p : ℕ) → AreTold flags (places ++ p ∷ []) → AreTold (set flags p false) places
told-fewer flags places p told = record {
  told = λ q ltq. by q (omega (arith, ltq, length-set flags p false)) (eqb q p) refl;
  apart = record {
    below = subst (λ n. All (λ r. r < n) places) (sym (length-set flags p false)) (All-pop (λ r. r < length flags) (places ++ p ∷ []) places (Some p) refl told.apart.below).0;
    distinct = subst (IsDistinct nat_eq) (take-append_seam places (p ∷ [])) (distinct-take nat_eq_equiv (length places) (places ++ p ∷ []) told.apart.distinct);
  };
}
  where
    by : (q : ℕ) → q < length flags → (b : Bool) → eqb q p ≡ b → get_or (set flags p false) q false ≡ is_among places q
    by q ltq true e =
        let same = eqb-true q p e in
        ap (λ k. get_or (set flags p false) k false) same ∙ get_or-set_same flags p false false (subst (λ k. k < length flags) same ltq)
        ∙ sym (fresh_last places p told.apart.distinct) ∙ ap (is_among places) (sym same)
    by q ltq false e =
        get_or-set_other flags p q false false (eqb-false q p e) ∙ told.told q ltq
        ∙ list_any-append (λ x. eqb q x) places (p ∷ []) ∙ ap (λ b. is_among places q || (b || false)) e
        ∙ sym (or_false (is_among places q))

-- if the places of both lists are distinct, all places of the second list are added
pub grown-apart : (ps qs : List ℕ) → IsDistinct nat_eq (ps ++ qs) → grown ps qs ≡ ps ++ qs
unfolding grown
grown-apart ps [] distinct = sym (append-nil ps)
grown-apart ps (q ∷ qs) distinct =
    let fresh : is_among ps q ≡ false =
    ap (λ k. is_among ps k) (sym (get_or-append_seam ps q qs 0))
    ∙ ap (λ l. is_among l (get_or (ps ++ q ∷ qs) (length ps) 0)) (sym (take-append_seam ps (q ∷ qs)))
    ∙ distinct-front nat_eq_equiv (ps ++ q ∷ qs) (length ps) 0 distinct (omega (arith, length-append ps (q ∷ qs))) in
    ap (λ b. fold grown_by (if b then ps else ps ++ q ∷ []) qs) fresh
    ∙ grown-apart (ps ++ q ∷ []) qs (subst (IsDistinct nat_eq) (sym (append_assoc ps (q ∷ []) qs)) distinct)
    ∙ append_assoc ps (q ∷ []) qs

above_0 : (ps : List ℕ) → AllByRecursion (λ y. eqb 0 y ≡ false) (map (λ p. p + 1) ps)
above_0 [] = tt
above_0 (p ∷ ps) = (ne_eqb 0 (p + 1) (λ e. omega (arith, e)), above_0 ps)

raised : (q : ℕ) (ps : List ℕ) → AllByRecursion (λ y. eqb q y ≡ false) ps → AllByRecursion (λ y. eqb (q + 1) y ≡ false) (map (λ p. p + 1) ps)
raised q [] h = tt
raised q (p ∷ ps) h = (ne_eqb (q + 1) (p + 1) (λ e. eqb-false q p h.0 (omega (arith, e))), raised q ps h.1)

distinct-raised : (ps : List ℕ) → IsDistinct nat_eq ps → IsDistinct nat_eq (map (λ p. p + 1) ps)
unfolding IsDistinct
distinct-raised [] h = tt
distinct-raised (p ∷ ps) h = (raised p ps h.0, distinct-raised ps h.1)

-- if the preloads are distinct, the places of level 0 are distinct, and adding the preloads to the
-- program makes level 0
pub distinct-level_0 : (preloads : List ℕ) → IsDistinct nat_eq preloads → IsDistinct nat_eq (level_0 preloads)
unfolding IsDistinct
distinct-level_0 preloads h = (above_0 preloads, distinct-raised preloads h)

pub grown-level_0 : (preloads : List ℕ) → IsDistinct nat_eq preloads → grown (0 ∷ []) (map (λ p. p + 1) preloads) ≡ level_0 preloads
grown-level_0 preloads h = grown-apart (0 ∷ []) (map (λ p. p + 1) preloads) (distinct-level_0 preloads h)
