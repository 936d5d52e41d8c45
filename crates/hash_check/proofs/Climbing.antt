-- One step towards a depth, by a jump or by a chain word.
use Rattle.std.proofs.Common.{◌≡◌, ℕ, ◌<◌, ◌≤◌, ◌+◌, ◌-◌, List, length, arith, ◌∙◌, sym, ap, subst, Some, inl, inr, ◌⊎◌}
use Rattle.std.specs.Prelude.{Option, slice_index}
use Rattle.hash_check.specs.Walk.{walk}
use Rattle.hash_check.specs.HashTable.{AreIndices}
use Rattle.hash_check.specs.inside.Places.{Depth, Known, Sound, Says, place_at}
use Rattle.hash_check.specs.declared.place.Place.{Place}
use Rattle.hash_check.proofs.Walks.{walk-zero, walk-add, walk-next, walk-suc, depth-along, depth-unique}
use Rattle.hash_check.proofs.Knowing.{known-index, jump_known, jump_depth}

-- `at` is on the walk from `from`, and the walk has at least `depth` steps left there
pub record Climbs (c : List ℕ) (from depth at : ℕ) : Type 0 where
  pub on : (d : ℕ) → Depth c from d → (k : ℕ) × (at ≡ walk c from k) × (k ≤ d - depth)

-- `next`, the index after a step, has a place, is on the walk with at least `depth` steps left, and has
-- fewer steps left than the index before
pub record Step (c : List ℕ) (ps : List (Option Place)) (from depth : ℕ) (p : Place) (next : ℕ) : Type 0 where
  pub within : next < length c
  pub known : Known ps next
  pub climbs : Climbs c from depth next
  pub falls : (q : Place) → place_at ps next ≡ Some q → q.depth < p.depth

-- if the walk from `from` has d steps, it has d - k steps left after k steps
left : (c : List ℕ) (from at d k e : ℕ) → Depth c from d → at ≡ walk c from k → k ≤ d → Depth c at e → e ≡ d - k
left c from at d k e h is le g = depth-unique c at e (d - k) g (subst (λ w. Depth c w (d - k)) (sym is) (depth-along c from d k h le))

pub step-jump : (c : List ℕ) (ps : List (Option Place)) (from depth at : ℕ) (p : Place) → Sound c ps → length ps ≡ length c → place_at ps at ≡ Some p → Climbs c from depth at
    → depth < p.depth → depth ≤ p.landing → Step c ps from depth p p.jump
step-jump c ps from depth at p sound size is h more far =
    let s : Says c ps at p = sound.says at p is in
    let some : 0 < p.depth = omega arith in
    let known : Known ps p.jump = jump_known c ps at p sound is in
    record {
      within = omega (arith, known-index ps p.jump known);
      known = known;
      climbs = record {
        on = λ d top.
            let k = h.on d top in
            let le : k.0 ≤ d = omega (arith, k.2) in
            let here : p.depth ≡ d - k.0 = left c from at d k.0 p.depth top k.1 le s.depth in
            (k.0 + (p.depth - p.landing), sym s.jump ∙ ap (λ w. walk c w (p.depth - p.landing)) k.1 ∙ sym (walk-add c from k.0 (p.depth - p.landing)), omega (arith, here, k.2, s.landing));
      };
      falls = λ q at-jump. omega (arith, jump_depth c ps at p q sound is at-jump, s.ahead some);
    }

pub step-single : (c : List ℕ) (ps : List (Option Place)) (from depth at : ℕ) (p : Place) → AreIndices (length c) c → at < length c → Sound c ps → length ps ≡ length c → place_at ps at ≡ Some p
    → Climbs c from depth at → depth < p.depth → Step c ps from depth p (slice_index c at)
step-single c ps from depth at p words lt sound size is h more =
    let s : Says c ps at p = sound.says at p is in
    let one : 1 ≤ p.depth = omega arith in
    let next : walk c at 1 ≡ slice_index c at = walk-suc c at 0 ∙ walk-zero c (slice_index c at) in
    let below : Depth c (slice_index c at) (p.depth - 1) = subst (λ w. Depth c w (p.depth - 1)) next (depth-along c at p.depth 1 s.depth one) in
    record {
      within = words at 0 lt;
      known = subst (Known ps) next (s.along 1 one);
      climbs = record {
        on = λ d top.
            let k = h.on d top in
            let le : k.0 ≤ d = omega (arith, k.2) in
            let here : p.depth ≡ d - k.0 = left c from at d k.0 p.depth top k.1 le s.depth in
            (k.0 + 1, ap (slice_index c) k.1 ∙ sym (walk-next c from k.0), omega (arith, here, k.2));
      };
      falls = λ q at-next. omega (arith, depth-unique c (slice_index c at) q.depth (p.depth - 1) ((sound.says (slice_index c at) q at-next).depth) below);
    }

-- if `at` is on the walk and has at most `depth` steps left, it is the index with exactly `depth` steps
-- left
pub arrived : (c : List ℕ) (ps : List (Option Place)) (from depth at d : ℕ) (p : Place) → Sound c ps → place_at ps at ≡ Some p
    → Climbs c from depth at → p.depth ≤ depth → Depth c from d → at ≡ walk c from (d - depth)
arrived c ps from depth at d p sound is h low top =
    let k = h.on d top in
    let le : k.0 ≤ d = omega (arith, k.2) in
    let here : p.depth ≡ d - k.0 = left c from at d k.0 p.depth top k.1 le ((sound.says at p is).depth) in
    let same : k.0 ≡ d - depth = omega (arith, here, k.2) in
    k.1 ∙ ap (walk c from) same

pub step-either : (c : List ℕ) (ps : List (Option Place)) (from depth at : ℕ) (p : Place) (next : ℕ) → AreIndices (length c) c → at < length c
    → Sound c ps → length ps ≡ length c → place_at ps at ≡ Some p
    → Climbs c from depth at → depth < p.depth → ((depth ≤ p.landing) × (next ≡ p.jump)) ⊎ (next ≡ slice_index c at) → Step c ps from depth p next
step-either c ps from depth at p next words lt sound size is h more which = elim which [
  | inl jump ↦ subst (Step c ps from depth p) (sym jump.1) (step-jump c ps from depth at p sound size is h more jump.0)
  | inr single ↦ subst (Step c ps from depth p) (sym single) (step-single c ps from depth at p words lt sound size is h more)
]
