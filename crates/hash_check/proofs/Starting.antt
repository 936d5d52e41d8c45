-- The places before any walk is followed, and after all walks are.
use Rattle.std.proofs.Common.{◌≡◌, ◌≢◌, ℕ, ◌<◌, List, length, arith, refl, ◌∙◌, sym, ap, subst, Some, None, inl, inr, get_or}
use Rattle.std.specs.Prelude.{Option}
use Rattle.std.specs.List.{All}
use Rattle.std.proofs.Math.ListN.{replicate}
use Rattle.std.proofs.lemmas.Bool.{cases_lt, cases_eq}
use Rattle.std.proofs.lemmas.List.{length-set, length-replicate, get_or-replicate, get_or-set_same, get_or-set_other, get_or_past, get_or_default}
use Rattle.hash_check.specs.Walk.{walk, Ends}
use Rattle.hash_check.specs.inside.Places.{Known, Sound, Says, Placed, place_at, none_but_zero}
use Rattle.hash_check.specs.declared.place.Place.{Place}
use Rattle.hash_check.proofs.Walks.{walk-zero, depth-zero}

origin : Place
origin = record { depth = 0; jump = 0; landing = 0; head = 0 }

pub first-size : (n : ℕ) → length (none_but_zero n) ≡ n
unfolding none_but_zero
first-size n = length-set (replicate n None) 0 (Some (record { depth = 0; jump = 0; landing = 0; head = 0 })) ∙ length-replicate n None

at-origin : (n : ℕ) → 0 < n → place_at (none_but_zero n) 0 ≡ Some origin
unfolding none_but_zero origin
at-origin n lt = get_or-set_same (replicate n None) 0 (Some (record { depth = 0; jump = 0; landing = 0; head = 0 })) None (omega (arith, length-replicate {A = Option Place} n None))

pub first-zero : (n : ℕ) → 0 < n → Known (none_but_zero n) 0
first-zero n lt = record { place = origin; is = at-origin n lt }

unset : (n i : ℕ) → place_at (replicate n None) i ≡ None
unset n i = elim (cases_lt i n) [
  | inl lt ↦ get_or-replicate n i None None lt
  | inr past ↦ get_or_past (replicate n None) i None (omega (arith, length-replicate {A = Option Place} n None))
]

at-others : (n i : ℕ) → i ≢ 0 → place_at (none_but_zero n) i ≡ None
unfolding none_but_zero
at-others n i other = get_or-set_other (replicate n None) 0 i (Some (record { depth = 0; jump = 0; landing = 0; head = 0 })) None other ∙ unset n i

says-origin : (c : List ℕ) (n : ℕ) → 0 < n → Says c (none_but_zero n) 0 origin
unfolding origin
says-origin c n lt = record {
  depth = depth-zero c;
  landing = omega arith;
  ahead = λ h. absurd (omega arith);
  jump = walk-zero c 0;
  head = λ other. absurd (other refl);
  along = λ k le. let none : k ≡ 0 = omega arith in subst (Known (none_but_zero n)) (sym (walk-zero c 0) ∙ ap (walk c 0) (sym none)) (first-zero n lt);
}

pub first-sound : (c : List ℕ) (n : ℕ) → 0 < n → Sound c (none_but_zero n)
first-sound c n lt = record {
  says = λ i p at. elim (cases_eq i 0) [
    | inl is ↦
        let e : Some origin ≡ Some p = sym (at-origin n lt) ∙ ap (place_at (none_but_zero n)) (sym is) ∙ at in
        let same : origin ≡ p = cc in
        subst (λ q. Says c (none_but_zero n) i q) same (subst (λ j. Says c (none_but_zero n) j origin) (sym is) (says-origin c n lt))
    | inr other ↦ let e : None ≡ Some p = sym (at-others n i other) ∙ at in absurd (cc)
  ];
}

-- the walk from an index that has a place ends
pub ends-from-known : (c : List ℕ) (ps : List (Option Place)) (i : ℕ) → Sound c ps → Known ps i → Ends c i
ends-from-known c ps i sound known = record { steps = known.place.depth; arrives = ((sound.says i known.place known.is).depth).arrives }

pub all-ends : (buckets c : List ℕ) (ps : List (Option Place)) → Placed buckets c ps → All (Ends c) buckets
all-ends buckets c ps h k d lt = ends-from-known c ps (get_or buckets k d) h.sound (h.known k d lt)

-- if a fact is true of each element of a list, read with the default 0, `All` has it
pub all-at : (P : ℕ → Type 0) (xs : List ℕ) → ((k : ℕ) → k < length xs → P (get_or xs k 0)) → All P xs
all-at P xs h k d lt = subst P (get_or_default xs k 0 d lt) (h k lt)
