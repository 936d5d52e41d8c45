-- Walks that meet in one index.
use Rattle.std.proofs.Common.{◌≡◌, ◌≢◌, ℕ, ◌<◌, ◌≤◌, ◌+◌, ◌-◌, List, length, arith, ◌∙◌, sym, ap, subst, inl, inr}
use Rattle.std.specs.Prelude.{Option, slice_index, ◌%◌}
use Rattle.std.specs.Option.{option_map_or}
use Rattle.std.proofs.lemmas.Bool.{cases_lt}
use Rattle.std.proofs.lemmas.Nat.{mod_below}
use Rattle.hash_check.specs.Walk.{walk, Meets}
use Rattle.hash_check.specs.HashTable.{bucket_of}
use Rattle.hash_check.specs.inside.Places.{Depth, Known, Sound, Says, IsJoint, place_at}
use Rattle.hash_check.specs.declared.place.Place.{Place}
use Rattle.hash_check.proofs.Walks.{walk-zero, walk-one, walk-add, walk-next, depth-along, depth-unique}
use Rattle.hash_check.proofs.StepsLeft.{depth-some}

pub meets-self : (c : List ℕ) (i : ℕ) → i ≢ 0 → Meets c i i
meets-self c i some = record {
  steps = 0;
  arrives = walk-zero c i;
  before = λ k le z. let none : k ≡ 0 = omega arith in some (sym (walk-zero c i) ∙ ap (walk c i) (sym none) ∙ z);
}

-- a walk that meets an index before 0 doesn't begin at 0, and meets the next index unless that is 0
pub meets-some : (c : List ℕ) (from i : ℕ) → Meets c from i → from ≢ 0
meets-some c from i h z = let least : 0 ≤ h.steps = omega arith in h.before 0 least (walk-zero c from ∙ z)

pub meets-next : (c : List ℕ) (from i : ℕ) → Meets c from i → slice_index c i ≢ 0 → Meets c from (slice_index c i)
meets-next c from i h some = record {
  steps = h.steps + 1;
  arrives = walk-next c from h.steps ∙ ap (slice_index c) h.arrives;
  before = λ k le z. elim (cases_lt k (h.steps + 1)) [
    | inl less ↦ let within : k ≤ h.steps = omega arith in h.before k within z
    | inr past ↦
        let last : k ≡ h.steps + 1 = omega arith in
        some (sym (walk-next c from h.steps ∙ ap (slice_index c) h.arrives) ∙ ap (walk c from) (sym last) ∙ z)
  ];
}

-- if a walk meets `via`, and the walk from `via` meets `i`, the walk meets `i`
pub meets-through : (c : List ℕ) (from via i : ℕ) → Meets c from via → Meets c via i → Meets c from i
meets-through c from via i first second = record {
  steps = first.steps + second.steps;
  arrives = walk-add c from first.steps second.steps ∙ ap (λ w. walk c w second.steps) first.arrives ∙ second.arrives;
  before = λ k le z. elim (cases_lt k first.steps) [
    | inl less ↦ let within : k ≤ first.steps = omega arith in first.before k within z
    | inr past ↦
        let rest : k - first.steps ≤ second.steps = omega arith in
        let whole : first.steps + (k - first.steps) ≡ k = omega arith in
        second.before (k - first.steps) rest
        (ap (λ w. walk c w (k - first.steps)) (sym first.arrives) ∙ sym (walk-add c from first.steps (k - first.steps)) ∙ ap (walk c from) whole ∙ z)
  ];
}

-- the number of steps from an index to 0
pub steps_left : List (Option Place) → ℕ → ℕ
steps_left places i = option_map_or (λ p. p.depth) (place_at places i) 0

left-is : (ps : List (Option Place)) (i : ℕ) (h : Known ps i) → steps_left ps i ≡ h.place.depth
unfolding steps_left
left-is ps i h = ap (λ o. option_map_or (λ p. p.depth) o 0) h.is

pub next-known : (c : List ℕ) (ps : List (Option Place)) (at : ℕ) → Sound c ps → Known ps at → at ≢ 0 → Known ps (slice_index c at)
next-known c ps at sound h some =
    let s : Says c ps at h.place = sound.says at h.place h.is in
    let rest : 0 < h.place.depth = depth-some c at h.place.depth some s.depth in
    let one : 1 ≤ h.place.depth = omega arith in
    subst (Known ps) (walk-one c at) (s.along 1 one)

pub next-nearer : (c : List ℕ) (ps : List (Option Place)) (at : ℕ) → Sound c ps → Known ps at → at ≢ 0 → steps_left ps (slice_index c at) < steps_left ps at
next-nearer c ps at sound h some =
    let s : Says c ps at h.place = sound.says at h.place h.is in
    let rest : 0 < h.place.depth = depth-some c at h.place.depth some s.depth in
    let one : 1 ≤ h.place.depth = omega arith in
    let next : Known ps (slice_index c at) = next-known c ps at sound h some in
    let n : Says c ps (slice_index c at) next.place = sound.says (slice_index c at) next.place next.is in
    let below : Depth c (slice_index c at) (h.place.depth - 1) = subst (λ w. Depth c w (h.place.depth - 1)) (walk-one c at) (depth-along c at h.place.depth 1 s.depth one) in
    omega (arith, rest, depth-unique c (slice_index c at) next.place.depth (h.place.depth - 1) n.depth below, left-is ps at h, left-is ps (slice_index c at) next)

-- an index that is met from the joint is met from the bucket of each hash
pub joint-meets : (buckets c : List ℕ) (ps : List (Option Place)) (joint hash i : ℕ) → 1 ≤ length buckets → IsJoint buckets c ps joint → Meets c joint i → Meets c (bucket_of buckets hash) i
joint-meets buckets c ps joint hash i some h m =
    let room : 0 < length buckets = omega (arith, some) in
    meets-through c (bucket_of buckets hash) joint i (h.met (meets-some c joint i m) (hash % length buckets) 0 (mod_below hash (length buckets) room)) m
