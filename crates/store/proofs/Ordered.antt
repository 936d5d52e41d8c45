-- Whether the sectors of extents can be claimed doesn't depend on the order of the extents.
use Rattle.std.proofs.Common.{◌≡◌, ℕ, ◌+◌, ◌<◌, Bool, List, [], ◌∷◌, ◌++◌, length, get_or, take, append_assoc, sym, ap, ◌∙◌, ⊎_elim, arith}
use Rattle.std.specs.Prelude.{Contains}
use Rattle.std.specs.List.{flat_map, range_with_len}
use Rattle.std.specs.List.Sorted.{IsPermutation}
use Rattle.std.proofs.lemmas.Grind.{flat_map-append}
use Rattle.std.proofs.lemmas.List.{append-nil, take_more}
use Rattle.std.proofs.lemmas.List.Elements.{Contains-append_left, Contains-append_right, Contains-append_cases}
use Rattle.std.proofs.lemmas.List.Sorted.{sum_by-IsPermutation}
use Rattle.extents.specs.declared.extent.Extent.{Extent}
use Rattle.extents.specs.Extent.{one_sector, places, AreDistinct}
use Rattle.extents.proofs.UsedLemmas.{claims-same_elements}
use Rattle.store.specs.declared.placed_entry.PlacedEntry.{PlacedEntry}
use Rattle.store.specs.Stands.{extents_of, sectors_of}
use Rattle.store.specs.inside.Claimed.{AreExtentsOf, IsUsable, IsClaimedBeside, IsUnclaimable}
use Rattle.store.proofs.Claiming.{all-part}
use Rattle.store.proofs.Counts.{occurs, occurs-append, occurs-flat_map, occurs_contains, contains_occurs, distinct_occurs, occurs_distinct}

-- appending an extent of one sector appends this sector to the places
pub singles_more : (start : List ℕ) (extents : List Extent) (sectors : List ℕ) (i d : ℕ) → i < length sectors → places extents ≡ start ++ take i sectors
    → places (extents ++ one_sector (get_or sectors i d) ∷ []) ≡ start ++ take (i + 1) sectors
singles_more start extents sectors i d lt so_far =
    let at = get_or sectors i d in
    flat_map-append (λ (e : Extent). range_with_len e.start e.count) extents (one_sector at ∷ [])
    ∙ ap (λ l. l ++ at ∷ []) so_far
    ∙ append_assoc start (take i sectors) (at ∷ [])
    ∙ ap (λ l. start ++ l) (sym (take_more sectors i d lt))

-- appending the extents of one more entry appends this entry's sectors to the places
pub extents_more : (start : List ℕ) (extents : List Extent) (entries : List PlacedEntry) (i : ℕ) (d : PlacedEntry) → i < length entries → places extents ≡ start ++ flat_map sectors_of (take i entries)
    → places ((extents ++ one_sector (get_or entries i d).at ∷ []) ++ extents_of (get_or entries i d).entry) ≡ start ++ flat_map sectors_of (take (i + 1) entries)
extents_more start extents entries i d lt so_far =
    let placed = get_or entries i d in
    ap places (append_assoc extents (one_sector placed.at ∷ []) (extents_of placed.entry))
    ∙ flat_map-append (λ (e : Extent). range_with_len e.start e.count) extents (one_sector placed.at ∷ extents_of placed.entry)
    ∙ ap (λ l. l ++ sectors_of placed) so_far
    ∙ append_assoc start (flat_map sectors_of (take i entries)) (sectors_of placed)
    ∙ ap (λ l. start ++ l) (sym (ap (flat_map sectors_of) (take_more entries i d lt) ∙ flat_map-append sectors_of (take i entries) (placed ∷ [])
    ∙ ap (λ l. flat_map sectors_of (take i entries) ++ l) (append-nil (sectors_of placed))))

-- each number occurs equally often in both lists
abbrev pub OccurAlike : List ℕ → List ℕ → Type 0
OccurAlike xs ys = (k : ℕ) → occurs k xs ≡ occurs k ys

alike-moved : (xs ys : List Extent) → IsPermutation xs ys → OccurAlike (places xs) (places ys)
alike-moved xs ys moved k =
    let f = λ (e : Extent). range_with_len e.start e.count in
    occurs-flat_map k f xs
    ∙ sym (sum_by-IsPermutation (λ e. occurs k (f e)) xs ys moved)
    ∙ sym (occurs-flat_map k f ys)

module _ (xs ys : List ℕ) (alike : OccurAlike xs ys) where
  among : (s : ℕ) → Contains xs s → Contains ys s
  among s found = occurs_contains s ys (omega (arith, contains_occurs s xs found, alike s))

  among_more : (front : List ℕ) (s : ℕ) → Contains (front ++ xs) s → Contains (front ++ ys) s
  among_more front s found = ⊎_elim
      (λ before. Contains-append_left front ys s before)
      (λ behind. Contains-append_right front ys s (among s behind))
      (Contains-append_cases front xs s found)

  distinct_more : (front : List ℕ) → AreDistinct (front ++ xs) → AreDistinct (front ++ ys)
  distinct_more front apart = occurs_distinct (front ++ ys)
      (λ k. omega (arith, distinct_occurs k (front ++ xs) apart, occurs-append k front xs, occurs-append k front ys, alike k))

  -- if one of the lists is claimed, the other is
  pub claimed-alike : (old new : List Bool) → IsClaimedBeside old new xs → IsClaimedBeside old new ys
  claimed-alike old new claimed = record {
    size = claimed.size;
    each = λ used just. claims-same_elements new (used ++ xs) (used ++ ys)
        (λ s. (among_more used s, back_more used s))
        (claimed.each used just);
    once = λ used just once. distinct_more used (claimed.once used just once);
    inside = all-part (IsUsable (length old)) ys xs back claimed.inside;
  }
    where
      back : (s : ℕ) → Contains ys s → Contains xs s
      back s found = occurs_contains s xs (omega (arith, contains_occurs s ys found, alike s))

      back_more : (front : List ℕ) (s : ℕ) → Contains (front ++ ys) s → Contains (front ++ xs) s
      back_more front s found = ⊎_elim
          (λ before. Contains-append_left front xs s before)
          (λ behind. Contains-append_right front xs s (back s behind))
          (Contains-append_cases front ys s found)

-- Claims of extents, stated for their sectors.
module _ (old : List Bool) (extents : List Extent) (sectors : List ℕ) (of : AreExtentsOf extents sectors) where
  there : OccurAlike (places extents) sectors
  there k = sym (alike-moved of.0 extents of.2 k) ∙ ap (occurs k) of.1

  back : OccurAlike sectors (places extents)
  back k = sym (there k)

  pub unclaimable-ordered : IsUnclaimable old (places extents) → IsUnclaimable old sectors
  unclaimable-ordered refused = record {
    never = λ used just inside once. refused.never used just
        (all-part (IsUsable (length old)) (places extents) sectors (among (places extents) sectors there) inside)
        (distinct_more sectors (places extents) back used once);
  }

  pub claimed-ordered : (new : List Bool) → IsClaimedBeside old new (places extents) → IsClaimedBeside old new sectors
  claimed-ordered new claimed = claimed-alike (places extents) sectors there old new claimed
