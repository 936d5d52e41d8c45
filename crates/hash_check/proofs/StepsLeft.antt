-- Whether a walk meets an index, decided by the numbers of steps that are left.
use Rattle.std.proofs.Common.{◌≡◌, ◌≢◌, ℕ, ◌<◌, ◌≤◌, ◌-◌, List, arith, ◌∙◌, sym, ap, subst, inl, inr}
use Rattle.std.specs.Prelude.{Option}
use Rattle.std.proofs.lemmas.Bool.{cases_lt}
use Rattle.hash_check.specs.Walk.{walk, Meets}
use Rattle.hash_check.specs.inside.Places.{Depth, Known, Sound, Says}
use Rattle.hash_check.specs.declared.place.Place.{Place}
use Rattle.hash_check.proofs.Walks.{walk-zero, depth-along, depth-unique}

pub depth-some : (c : List ℕ) (v d : ℕ) → v ≢ 0 → Depth c v d → 0 < d
depth-some c v d some h = elim (cases_lt 0 d) [
  | inl lt ↦ lt
  | inr none ↦ let z : d ≡ 0 = omega arith in absurd (some (sym (walk-zero c v) ∙ ap (walk c v) (sym z) ∙ h.arrives))
]

-- if the walk reaches an index when the index's own number `e` of steps are left, the walk meets the
-- index
pub meets-from-depth : (c : List ℕ) (from index d e : ℕ) → Depth c from d → Depth c index e → index ≢ 0 → walk c from (d - e) ≡ index → Meets c from index
meets-from-depth c from index d e top low some is =
    let rest : 0 < e = depth-some c index e some low in
    let here : (k : ℕ) → k ≤ d - e → walk c from k ≢ 0 = λ k le z. elim (cases_lt k d) [
      | inl lt ↦ top.before k lt z
      | inr past ↦
          let same : k ≡ d - e = omega arith in
          some (sym is ∙ ap (walk c from) (sym same) ∙ z)
    ] in
    record { steps = d - e; arrives = is; before = here }

-- if a walk meets an index with `e` steps left, the walk reaches it when `e` steps are left
pub depth-from-meets : (c : List ℕ) (from index d e : ℕ) → Depth c from d → Depth c index e → Meets c from index → walk c from (d - e) ≡ index
depth-from-meets c from index d e top low h = elim (cases_lt h.steps d) [
  | inl lt ↦
      let le : h.steps ≤ d = omega arith in
      let same : e ≡ d - h.steps = depth-unique c index e (d - h.steps) low (subst (λ w. Depth c w (d - h.steps)) h.arrives (depth-along c from d h.steps top le)) in
      let steps : d - e ≡ h.steps = omega arith in
      ap (walk c from) steps ∙ h.arrives
  | inr past ↦ absurd (h.before d past top.arrives)
]

-- an index that is met has a place
pub known-from-meets : (c : List ℕ) (ps : List (Option Place)) (from index : ℕ) → Sound c ps → Known ps from → Meets c from index → Known ps index
known-from-meets c ps from index sound known h =
    let s : Says c ps from known.place = sound.says from known.place known.is in
    elim (cases_lt known.place.depth h.steps) [
      | inl past ↦ let le : known.place.depth ≤ h.steps = omega arith in absurd (h.before known.place.depth le s.depth.arrives)
      | inr le ↦ subst (Known ps) h.arrives (s.along h.steps le)
    ]
