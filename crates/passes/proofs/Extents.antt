-- The sectors of extents, one extent after the other.
use Rattle.std.proofs.Common.{◌≡◌, ⊎_elim, ℕ, suc, ◌+◌, ◌<◌, ◌≤◌, List, [], ◌∷◌, ◌++◌, length, get_or, take, drop, AllPairs, sym, ap, subst, ◌∙◌, arith}
use Rattle.std.specs.List.{range_with_len, Contains}
use Rattle.std.proofs.lemmas.List.{append-nil, take_more, take-append-drop, get_or-take, length-take}
use Rattle.std.proofs.lemmas.List.Sums.{sum_by-append}
use Rattle.std.proofs.lemmas.List.Elements.{Contains-append_left, Contains-append_right, Contains-append_cases}
use Rattle.std.proofs.lemmas.Grind.{flat_map-append}
use Rattle.extents.specs.declared.extent.Extent.{Extent}
use Rattle.extents.specs.Extent.{Has, IsApart, sector_count, places}
use Rattle.passes.proofs.Runs.{in_range, from_range}

-- the sectors of two joined lists of extents are those of one list, followed by those of the other
pub places-append : (some more : List Extent) → places (some ++ more) ≡ places some ++ places more
places-append some more = flat_map-append (λ (e : Extent). range_with_len e.start e.count) some more

pub places_more : (extents : List Extent) (i : ℕ) (d : Extent) → i < length extents
    → places (take (i + 1) extents) ≡ places (take i extents) ++ range_with_len (get_or extents i d).start (get_or extents i d).count
places_more extents i d lt =
    ap places (take_more extents i d lt)
    ∙ places-append (take i extents) (get_or extents i d ∷ [])
    ∙ ap (λ l. places (take i extents) ++ l) (append-nil (range_with_len (get_or extents i d).start (get_or extents i d).count))

pub count_more : (extents : List Extent) (i : ℕ) (d : Extent) → i < length extents → sector_count (take (i + 1) extents) ≡ sector_count (take i extents) + (get_or extents i d).count
count_more extents i d lt = omega (
  arith,
  ap sector_count (take_more extents i d lt),
  sum_by-append (λ (e : Extent). e.count) (take i extents) (get_or extents i d ∷ []),
)

pub count_within : (extents : List Extent) (i : ℕ) → sector_count (take i extents) ≤ sector_count extents
count_within extents i = omega (
  arith,
  ap sector_count (take-append-drop i extents),
  sum_by-append (λ (e : Extent). e.count) (take i extents) (drop i extents),
)

pub run_in_places : (extents : List Extent) (i : ℕ) (d : Extent) → i < length extents → (k : ℕ) → Has (get_or extents i d) k → Contains (places extents) k
run_in_places extents i d lt k here =
    subst (λ l. Contains l k) (sym (places-append (take (i + 1) extents) (drop (i + 1) extents)) ∙ ap places (take-append-drop (i + 1) extents))
    (Contains-append_left (places (take (i + 1) extents)) (places (drop (i + 1) extents)) k
    (subst (λ l. Contains l k) (sym (places_more extents i d lt))
    (Contains-append_right (places (take i extents)) (range_with_len (get_or extents i d).start (get_or extents i d).count) k (from_range _ _ k here.0 here.1))))

-- each sector in the list lies in one of the extents
pub in_extent : (extents : List Extent) (k : ℕ) (d : Extent) → Contains (places extents) k → (j : ℕ) × (j < length extents) × Has (get_or extents j d) k
in_extent [] k d found = absurd (omega (arith, found.1))
in_extent (e ∷ extents) k d found = ⊎_elim
    (λ here. (0, omega arith, in_range e.start e.count k here))
    (λ there. let later = in_extent extents k d there in (suc later.0, omega (arith, later.1), later.2))
    (Contains-append_cases (range_with_len e.start e.count) (places extents) k found)

-- no sector of the earlier extents is a sector of this one
pub earlier_apart : (extents : List Extent) (i : ℕ) (d : Extent) → i < length extents → AllPairs IsApart extents → (k : ℕ) → Contains (places (take i extents)) k → Has (get_or extents i d) k → ⊥
earlier_apart extents i d lt apart k found here =
    let one = in_extent (take i extents) k d found in
    let before : one.0 < i = omega (arith, one.1, length-take i extents) in
    let same : get_or (take i extents) one.0 d ≡ get_or extents one.0 d = get_or-take i extents one.0 d before in
    let there : Has (get_or extents one.0 d) k = subst (λ (e : Extent). Has e k) same one.2 in
    ⊎_elim (λ left. omega (arith, left, there.1, here.0)) (λ right. omega (arith, right, there.0, here.1)) (apart one.0 i d before lt)
