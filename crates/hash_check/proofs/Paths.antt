-- The path of a walk: with one more index, with one less, and with as many as there are indices.
use Rattle.std.proofs.Common.{◌≡◌, ◌≢◌, ℕ, true, false, ◌<◌, ◌+◌, List, [], ◌∷◌, ◌++◌, length, arith, refl, ◌∙◌, sym, ap, subst, Some, None, inl, inr}
use Rattle.std.specs.Prelude.{Option, slice_index}
use Rattle.std.specs.Option.{is_some}
use Rattle.std.proofs.lemmas.Bool.{cases_lt}
use Rattle.std.proofs.lemmas.List.{get_or_append_left, get_or_push, length_push}
use Rattle.hash_check.specs.Walk.{walk, Ends, Meets}
use Rattle.hash_check.specs.HashTable.{AreIndices}
use Rattle.hash_check.specs.inside.Places.{Known, IsPath, place_at}
use Rattle.hash_check.specs.declared.place.Place.{Place}
use Rattle.hash_check.proofs.Walks.{walk-next, walk-index, depth-small, depth-from-ends}

pub path-empty : (c : List ℕ) (from : ℕ) → IsPath c from []
path-empty c from = record { walked = λ k lt. absurd (omega arith); before = λ k lt. absurd (omega arith) }

pub path-push : (c : List ℕ) (from : ℕ) (path : List ℕ) (at : ℕ) → IsPath c from path → at ≡ walk c from (length path) → at ≢ 0 → IsPath c from (path ++ at ∷ [])
path-push c from path at h is some = record {
  walked = λ k lt. elim (cases_lt k (length path)) [
    | inl less ↦ get_or_append_left path (at ∷ []) 0 k less ∙ h.walked k less
    | inr last ↦ let e : length path ≡ k = omega (arith, lt, length_push path at) in get_or_push path at 0 k e ∙ is ∙ ap (walk c from) e
  ];
  before = λ k lt z. elim (cases_lt k (length path)) [
    | inl less ↦ h.before k less z
    | inr last ↦ let e : length path ≡ k = omega (arith, lt, length_push path at) in some (is ∙ ap (walk c from) e ∙ z)
  ];
}

-- the last index of a path is the one that its walk reaches after all the others, and isn't 0
pub path-last : (c : List ℕ) (from : ℕ) (front : List ℕ) (i : ℕ) → IsPath c from (front ++ i ∷ []) → i ≡ walk c from (length front)
path-last c from front i h = let lt : length front < length (front ++ i ∷ []) = omega (arith, length_push front i) in
    sym (get_or_push front i 0 (length front) refl) ∙ h.walked (length front) lt

pub path-last-some : (c : List ℕ) (from : ℕ) (front : List ℕ) (i : ℕ) → IsPath c from (front ++ i ∷ []) → i ≢ 0
path-last-some c from front i h z = let lt : length front < length (front ++ i ∷ []) = omega (arith, length_push front i) in
    h.before (length front) lt (sym (path-last c from front i h) ∙ z)

-- the walk of a path meets the last index, and the path without it is a path of the same walk
pub path-meets : (c : List ℕ) (from : ℕ) (front : List ℕ) (i : ℕ) → IsPath c from (front ++ i ∷ []) → Meets c from i
path-meets c from front i h = record {
  steps = length front;
  arrives = sym (path-last c from front i h);
  before = λ k le. let less : k < length (front ++ i ∷ []) = omega (arith, length_push front i) in h.before k less;
}

pub path-front : (c : List ℕ) (from : ℕ) (front : List ℕ) (i : ℕ) → IsPath c from (front ++ i ∷ []) → IsPath c from front
path-front c from front i h = record {
  walked = λ k lt. let less : k < length (front ++ i ∷ []) = omega (arith, length_push front i) in sym (get_or_append_left front (i ∷ []) 0 k lt) ∙ h.walked k less;
  before = λ k lt. let less : k < length (front ++ i ∷ []) = omega (arith, length_push front i) in h.before k less;
}

-- if a path has as many indices as there are chain words, its walk doesn't end
pub path-full : (c : List ℕ) (from : ℕ) (path : List ℕ) → AreIndices (length c) c → from < length c → IsPath c from path → length path ≡ length c → Ends c from → ⊥
path-full c from path words lt h full ends =
    let d = depth-from-ends c from ends in
    let small : d.0 < length path = omega (arith, depth-small c from d.0 words lt d.1) in
    h.before d.0 small d.1.arrives

-- an index that is removed from the end of a path is an index of the table, and the next index of its
-- walk has a place
pub popped-index : (c : List ℕ) (from : ℕ) (path front : List ℕ) (i : ℕ) → AreIndices (length c) c → from < length c → IsPath c from path → path ≡ front ++ i ∷ [] → i < length c
popped-index c from path front i words lt h e =
    subst (λ j. j < length c) (sym (path-last c from front i (subst (IsPath c from) e h))) (walk-index c from (length front) words lt)

pub popped-known : (c : List ℕ) (ps : List (Option Place)) (from : ℕ) (path front : List ℕ) (i : ℕ) → IsPath c from path
    → Known ps (walk c from (length path)) → path ≡ front ++ i ∷ [] → Known ps (slice_index c i)
popped-known c ps from path front i h known e =
    let longer : length path ≡ length front + 1 = ap length e ∙ length_push front i in
    subst (Known ps) (ap (walk c from) longer ∙ walk-next c from (length front) ∙ ap (slice_index c) (sym (path-last c from front i (subst (IsPath c from) e h)))) known

-- if `place_at` returns a place for an index, the index is known; if it returns none and 0 is known, the
-- index isn't 0
pub known-tested : (ps : List (Option Place)) (i : ℕ) (o : Option Place) → o ≡ place_at ps i → is_some o ≡ true → Known ps i
known-tested ps i None e t = let f : false ≡ true = t in absurd (cc)
known-tested ps i (Some p) e t = record { place = p; is = sym e }

pub unknown-some : (ps : List (Option Place)) (i : ℕ) → Known ps 0 → place_at ps i ≡ None → i ≢ 0
unknown-some ps i h none z = let some : place_at ps i ≡ Some h.place = ap (place_at ps) z ∙ h.is in cc

pub unknown-tested : (ps : List (Option Place)) (i : ℕ) (o : Option Place) → Known ps 0 → o ≡ place_at ps i → is_some o ≡ false → i ≢ 0
unknown-tested ps i None h e t = unknown-some ps i h (sym e)
unknown-tested ps i (Some p) h e t = let f : true ≡ false = t in absurd (cc)
