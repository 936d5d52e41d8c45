-- Sound places have right bounds and jumps, and stay sound with the place of one more index.
use Rattle.std.proofs.Common.{◌≡◌, ◌≢◌, ℕ, ◌<◌, ◌≤◌, ◌+◌, ◌-◌, List, length, arith, refl, ◌∙◌, sym, ap, subst, Some, None, get_or, set, inl, inr, suc, zero}
use Rattle.std.specs.Prelude.{Option, slice_index}
use Rattle.std.proofs.lemmas.Bool.{cases_lt, cases_eq}
use Rattle.std.proofs.lemmas.List.{get_or_past, get_or-set_same, get_or-set_other}
use Rattle.hash_check.specs.Walk.{walk, Meets}
use Rattle.hash_check.specs.HashTable.{AreIndices}
use Rattle.hash_check.specs.inside.Places.{Depth, Known, Sound, Says, IsBefore, place_at}
use Rattle.hash_check.specs.declared.place.Place.{Place}
use Rattle.hash_check.proofs.Walks.{walk-zero, walk-suc, walk-add, depth-along, depth-unique, depth-before, depth-small}

pub known-index : (ps : List (Option Place)) (i : ℕ) → Known ps i → i < length ps
known-index ps i h = elim (cases_lt i (length ps)) [
  | inl lt ↦ lt
  | inr past ↦ let none : place_at ps i ≡ None = get_or_past ps i None past in let some : place_at ps i ≡ Some h.place = h.is in absurd (cc)
]

pub jump_known : (c : List ℕ) (ps : List (Option Place)) (v : ℕ) (p : Place) → Sound c ps → place_at ps v ≡ Some p → Known ps p.jump
jump_known c ps v p sound at =
    let s : Says c ps v p = sound.says v p at in
    let le : p.depth - p.landing ≤ p.depth = omega arith in
    subst (Known ps) s.jump (s.along (p.depth - p.landing) le)

pub jump_index : (c : List ℕ) (ps : List (Option Place)) (v : ℕ) (p : Place) → Sound c ps → place_at ps v ≡ Some p → p.jump < length ps
jump_index c ps v p sound at = known-index ps p.jump (jump_known c ps v p sound at)

pub jump_depth : (c : List ℕ) (ps : List (Option Place)) (v : ℕ) (p far : Place) → Sound c ps → place_at ps v ≡ Some p → place_at ps p.jump ≡ Some far → far.depth ≡ p.landing
jump_depth c ps v p far sound at landed =
    let s : Says c ps v p = sound.says v p at in
    let f : Says c ps p.jump far = sound.says p.jump far landed in
    let le : p.depth - p.landing ≤ p.depth = omega arith in
    let same : p.depth - (p.depth - p.landing) ≡ p.landing = omega (arith, s.landing) in
    let d : Depth c p.jump p.landing = subst (Depth c p.jump) same (subst (λ w. Depth c w (p.depth - (p.depth - p.landing))) s.jump (depth-along c v p.depth (p.depth - p.landing) s.depth le)) in
    depth-unique c p.jump far.depth p.landing f.depth d

pub jump_far : (c : List ℕ) (ps : List (Option Place)) (v : ℕ) (p far : Place) → Sound c ps → place_at ps v ≡ Some p → place_at ps p.jump ≡ Some far → far.landing ≤ p.landing
jump_far c ps v p far sound at landed =
    let f : Says c ps p.jump far = sound.says p.jump far landed in
    omega (arith, f.landing, jump_depth c ps v p far sound at landed)

pub depth_bound : (c : List ℕ) (ps : List (Option Place)) (v : ℕ) (p : Place) → AreIndices (length c) c → v < length c → Sound c ps → place_at ps v ≡ Some p → p.depth < length c
depth_bound c ps v p words lt sound at = depth-small c v p.depth words lt ((sound.says v p at).depth)

pub joined : (c : List ℕ) (ps : List (Option Place)) (head v : ℕ) (p far : Place) → Sound c ps → place_at ps v ≡ Some p → place_at ps p.jump ≡ Some far
    → IsBefore c head v p (record { depth = p.depth + 1; jump = far.jump; landing = far.landing; head = head })
joined c ps head v p far sound at landed =
    let s : Says c ps v p = sound.says v p at in
    let f : Says c ps p.jump far = sound.says p.jump far landed in
    let down : far.depth ≡ p.landing = jump_depth c ps v p far sound at landed in
    let steps : p.depth - far.landing ≡ (p.depth - p.landing) + (far.depth - far.landing) = omega (arith, s.landing, f.landing, down) in
    record {
      begins = refl;
      depth = refl;
      landing = omega (arith, s.landing, f.landing, down);
      jump = ap (walk c v) steps ∙ walk-add c v (p.depth - p.landing) (far.depth - far.landing) ∙ ap (λ w. walk c w (far.depth - far.landing)) s.jump ∙ f.jump;
    }

pub single : (c : List ℕ) (head v : ℕ) (p : Place) → IsBefore c head v p (record { depth = p.depth + 1; jump = v; landing = p.depth; head = head })
single c head v p = record {
  begins = refl;
  depth = refl;
  landing = omega arith;
  jump = let none : p.depth - p.depth ≡ 0 = omega arith in ap (walk c v) none ∙ walk-zero c v;
}

-- after a place was stored for an index, this index has a place, and so has each index that had one
pub known-set : (ps : List (Option Place)) (i : ℕ) (new : Place) (k : ℕ) → Known ps k → Known (set ps i (Some new)) k
known-set ps i new k h = elim (cases_eq k i) [
  | inl is ↦ record { place = new; is = ap (λ j. get_or (set ps i (Some new)) j None) is ∙ get_or-set_same ps i (Some new) None (subst (λ j. j < length ps) is (known-index ps k h)) }
  | inr other ↦ record { place = h.place; is = get_or-set_other ps i k (Some new) None other ∙ h.is }
]

pub known-new : (ps : List (Option Place)) (i : ℕ) (new : Place) → i < length ps → Known (set ps i (Some new)) i
known-new ps i new lt = record { place = new; is = get_or-set_same ps i (Some new) None lt }

says-set : (c : List ℕ) (ps : List (Option Place)) (i : ℕ) (new : Place) (k : ℕ) (p : Place) → Says c ps k p → Says c (set ps i (Some new)) k p
says-set c ps i new k p s = record { depth = s.depth; landing = s.landing; ahead = s.ahead; jump = s.jump; along = λ j le. known-set ps i new (walk c k j) (s.along j le); head = s.head }

along-before : (c : List ℕ) (ps : List (Option Place)) (i : ℕ) (next new : Place) → i < length ps → Says c ps (slice_index c i) next → (j : ℕ)
    → j ≤ next.depth + 1 → Known (set ps i (Some new)) (walk c i j)
along-before c ps i next new lt s zero le = subst (Known (set ps i (Some new))) (sym (walk-zero c i)) (known-new ps i new lt)
along-before c ps i next new lt s (suc j) le = let less : j ≤ next.depth = omega arith in
    subst (Known (set ps i (Some new))) (sym (walk-suc c i j)) (known-set ps i new (walk c (slice_index c i) j) (s.along j less))

says-before : (c : List ℕ) (ps : List (Option Place)) (head i : ℕ) (next new : Place) → i ≢ 0 → i < length ps → Says c ps (slice_index c i) next
    → IsBefore c head (slice_index c i) next new → Meets c head i → Says c (set ps i (Some new)) i new
says-before c ps head i next new some lt s b met = record {
  head = λ other. subst (λ h. Meets c h i) (sym b.begins) met;
  depth = subst (Depth c i) (sym b.depth) (depth-before c i next.depth some s.depth);
  landing = omega (arith, b.depth, b.landing);
  ahead = λ h. omega (arith, b.depth, b.landing);
  jump = let steps : new.depth - new.landing ≡ suc (next.depth - new.landing) = omega (arith, b.depth, b.landing) in
      ap (walk c i) steps ∙ walk-suc c i (next.depth - new.landing) ∙ b.jump;
  along = λ j le. along-before c ps i next new lt s j (omega (arith, b.depth));
}

-- places stay sound after the right place of one more index is stored
pub sound-set : (c : List ℕ) (ps : List (Option Place)) (head i : ℕ) (new : Place) → Sound c ps → i ≢ 0 → i < length ps → Known ps (slice_index c i)
    → ((p : Place) → place_at ps (slice_index c i) ≡ Some p → IsBefore c head (slice_index c i) p new) → Meets c head i → Sound c (set ps i (Some new))
sound-set c ps head i new sound some lt h b met = record {
  says = λ k p at. elim (cases_eq k i) [
    | inl is ↦
        let e : Some new ≡ Some p = sym (get_or-set_same ps i (Some new) None lt) ∙ ap (λ j. get_or (set ps i (Some new)) j None) (sym is) ∙ at in
        let same : new ≡ p = cc in
        let s : Says c (set ps i (Some new)) i new = says-before c ps head i h.place new some lt (sound.says (slice_index c i) h.place h.is) (b h.place h.is) met in
        subst (λ q. Says c (set ps i (Some new)) k q) same (subst (λ j. Says c (set ps i (Some new)) j new) (sym is) s)
    | inr other ↦ says-set c ps i new k p (sound.says k p (sym (get_or-set_other ps i k (Some new) None other) ∙ at))
  ];
}
