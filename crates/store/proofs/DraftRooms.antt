-- The sectors that are claimed beside the current state, after a line of an update took sectors and freed others.
use Rattle.std.proofs.Common.{◌≡◌, ⊎_elim, ℕ, ◌+◌, ◌<◌, ◌≤◌, Bool, List, [], ◌∷◌, ◌++◌, length, get_or, set, sum_by, All, sym, ap, subst, ◌∙◌, arith}
use Rattle.std.specs.List.{remove}
use Rattle.std.proofs.lemmas.List.{length-append}
use Rattle.std.proofs.lemmas.List.Elements.{All-append, All-contains, Contains-append_cases, Contains-append_left, Contains-append_right}
use Rattle.std.proofs.lemmas.List.Sums.{sum_by-cons, sum_by-remove, sum_by-set, sum_by_push}
use Rattle.extents.specs.Extent.{AreDistinct}
use Rattle.extents.specs.Layout.{unused_count}
use Rattle.extents.specs.Used.{ClaimsJust}
use Rattle.extents.proofs.PlacesLemmas.{distinct-append}
use Rattle.extents.proofs.UsedLemmas.{unused_count-used}
use Rattle.passes.proofs.Parts.{distinct-first, distinct-last, distinct-parts}
use Rattle.store.specs.declared.kept.Kept.{Kept}
use Rattle.store.specs.declared.placed_entry.PlacedEntry.{PlacedEntry}
use Rattle.store.specs.Holds.{in_use}
use Rattle.store.specs.Stands.{catalogues_of}
use Rattle.store.specs.inside.Claimed.{IsClaimedBeside, IsUsable}
use Rattle.store.specs.inside.Draft.{IsStagedIn, KeepsList, own_in, own_sectors_in, spare_of}
use Rattle.store.specs.inside.Kept.{IsKept}
use Rattle.store.specs.inside.Room.{AreClaimedOnce, IsReleased}
use Rattle.store.proofs.Anew.{all_usable, claims_as, distinct_as, same_elements}
use Rattle.store.proofs.Claiming.{all-part}
use Rattle.store.proofs.Counts.{occurs, occurs-append}

-- If sectors are claimed beside one list of all claimed sectors, they are claimed beside each such list.
pub claimed_beside : (old new : List Bool) (used more : List ℕ) → length new ≡ length old → ClaimsJust old used → ClaimsJust new (used ++ more) → AreDistinct (used ++ more)
    → All (IsUsable (length old)) more → IsClaimedBeside old new more
claimed_beside old new used more size before after apart inside = record {
  size = size;
  each = λ other just. record {
    each = λ s. (
      λ claimed.
          let both = (after.each s).0 claimed in (
            both.0,
            ⊎_elim
                (λ here. Contains-append_left other more s ((just.each s).0 ((before.each s).1 (both.0, here))).1)
                (λ there. Contains-append_right other more s there)
                (Contains-append_cases used more s both.1),
          ),
      λ both. (after.each s).1 (
        both.0,
        ⊎_elim
            (λ here. Contains-append_left used more s ((before.each s).0 ((just.each s).1 (both.0, here))).1)
            (λ there. Contains-append_right used more s there)
            (Contains-append_cases other more s both.1),
      ),
    );
  };
  once = λ other just once. distinct-append other more once (distinct-last used more apart)
      (λ s there here.
      let behind = (All-contains (IsUsable (length old)) more s inside here).0 in
      distinct-parts used more s apart ((before.each s).0 ((just.each s).1 (behind, there))).1 here);
  inside = inside;
}

-- The count of those sectors of `entries` that the list `others` doesn't use is the sum over the entries.
module _ (h : List ℕ → ℕ) (none : h [] ≡ 0) (joined : (a b : List ℕ) → h (a ++ b) ≡ h a + h b) (others : List PlacedEntry) where
  own_sum : (entries : List PlacedEntry) → h (own_sectors_in others entries) ≡ sum_by (λ p. h (own_in others p)) entries
  own_sum [] = none
  own_sum (e ∷ entries) = omega (arith, joined (own_in others e) (own_sectors_in others entries), own_sum entries, sum_by-cons (λ p. h (own_in others p)) e entries)

  pub own_more : (entries : List PlacedEntry) (put : PlacedEntry) → h (own_sectors_in others (entries ++ put ∷ [])) ≡ h (own_sectors_in others entries) + h (own_in others put)
  own_more entries put = omega (arith, own_sum entries, own_sum (entries ++ put ∷ []), sum_by_push (λ p. h (own_in others p)) entries put)

  pub own_set : (entries : List PlacedEntry) (place : ℕ) (put d : PlacedEntry) → place < length entries
      → h (own_sectors_in others (set entries place put)) + h (own_in others (get_or entries place d)) ≡ h (own_sectors_in others entries) + h (own_in others put)
  own_set entries place put d lt = omega (arith, own_sum entries, own_sum (set entries place put), sum_by-set (λ p. h (own_in others p)) entries place put d lt)

  pub own_removed : (entries : List PlacedEntry) (gone : ℕ) (d : PlacedEntry) → gone < length entries
      → h (own_sectors_in others (remove entries gone)) + h (own_in others (get_or entries gone d)) ≡ h (own_sectors_in others entries)
  own_removed entries gone d lt = omega (arith, own_sum entries, own_sum (remove entries gone), sum_by-remove (λ p. h (own_in others p)) entries gone d lt)

-- if the list and the layout stay the same, what the update wrote is still claimed beside the list
pub staged_as : {old new : Kept} {entries : List PlacedEntry} → KeepsList old new → new.layout ≡ old.layout → IsStagedIn old entries → IsStagedIn new entries
staged_as {old = old} {new = new} {entries = entries} same layout is = record {
  standing = is.standing;
  stands = subst (λ root. IsKept root new.entries.items new.held is.standing) (sym same.root)
      (subst (λ l. IsKept old.root l.items new.held is.standing) (sym same.entries)
      (subst (λ held. IsKept old.root old.entries.items held is.standing) (sym same.held) is.stands));
  claimed = subst (λ l. IsClaimedBeside is.standing l (own_sectors_in new.entries.items entries)) (sym layout)
      (subst (λ l. IsClaimedBeside is.standing old.layout (own_sectors_in l.items entries)) (sym same.entries) is.claimed);
  room = omega (arith, is.room, ap unused_count layout, ap (λ root. length (catalogues_of root)) same.root);
}

-- A line takes these sectors beside everything that the update wrote, and then frees others of the claimed sectors.
-- Those sectors of the new list that the current list doesn't use are left.
pub record IsRestaged (kept : Kept) (entries : List PlacedEntry) (mid : List Bool) (more gone : List ℕ) (others : List PlacedEntry) : Type 0 where
  pub staged : IsStagedIn kept entries
  pub claimed : IsClaimedBeside kept.layout mid more
  pub parts : (k : ℕ) → occurs k (own_sectors_in kept.entries.items entries) + occurs k more ≡ occurs k (own_sectors_in kept.entries.items others) + occurs k gone
  pub count : length (own_sectors_in kept.entries.items entries) + length more ≡ length (own_sectors_in kept.entries.items others) + length gone

module _ {kept : Kept} {entries : List PlacedEntry} {mid : List Bool} {more gone : List ℕ} {others : List PlacedEntry} (is : IsRestaged kept entries mid more gone others) where
  abbrev own : List ℕ
  own = own_sectors_in kept.entries.items entries

  abbrev left : List ℕ
  left = own_sectors_in kept.entries.items others

  abbrev used : List ℕ
  used = in_use kept.root kept.entries.items kept.held

  own_claims : ClaimsJust kept.layout (used ++ own)
  own_claims = is.staged.claimed.each used is.staged.stands.claimed.claims

  own_once : AreDistinct (used ++ own)
  own_once = is.staged.claimed.once used is.staged.stands.claimed.claims is.staged.stands.claimed.once

  all_claims : ClaimsJust mid ((used ++ own) ++ more)
  all_claims = is.claimed.each (used ++ own) own_claims

  all_once : AreDistinct ((used ++ own) ++ more)
  all_once = is.claimed.once (used ++ own) own_claims own_once

  size : length kept.layout ≡ kept.root.sectors
  size = is.staged.claimed.size ∙ is.staged.stands.size

  own_inside : All (IsUsable kept.root.sectors) (used ++ own)
  own_inside = All-append (IsUsable kept.root.sectors) used own (all_usable is.staged.stands)
      (subst (λ n. All (IsUsable n) own) is.staged.stands.size is.staged.claimed.inside)

  all_inside : All (IsUsable kept.root.sectors) ((used ++ own) ++ more)
  all_inside = All-append (IsUsable kept.root.sectors) (used ++ own) more own_inside (subst (λ n. All (IsUsable n) more) size is.claimed.inside)

  counts : (k : ℕ) → occurs k ((used ++ own) ++ more) ≡ occurs k ((used ++ left) ++ gone)
  counts k = omega (
    arith,
    is.parts k,
    occurs-append k (used ++ own) more,
    occurs-append k used own,
    occurs-append k (used ++ left) gone,
    occurs-append k used left,
  )

  after_claims : ClaimsJust mid ((used ++ left) ++ gone)
  after_claims = claims_as mid ((used ++ own) ++ more) ((used ++ left) ++ gone) counts all_claims

  after_once : AreDistinct ((used ++ left) ++ gone)
  after_once = distinct_as ((used ++ own) ++ more) ((used ++ left) ++ gone) counts all_once

  after_inside : All (IsUsable kept.root.sectors) ((used ++ left) ++ gone)
  after_inside = all-part (IsUsable kept.root.sectors) ((used ++ left) ++ gone) ((used ++ own) ++ more)
      (same_elements ((used ++ left) ++ gone) ((used ++ own) ++ more) (λ k. sym (counts k))) all_inside

  -- The sectors that the line frees are claimed.
  pub restaged_held : AreClaimedOnce mid gone
  restaged_held = (
    used ++ left,
    after_claims,
    after_once,
    subst (λ n. All (IsUsable n) gone) (sym (is.claimed.size ∙ size))
        (all-part (IsUsable kept.root.sectors) gone ((used ++ left) ++ gone) (λ s found. Contains-append_right (used ++ left) gone s found) after_inside),
  )

  -- Once they are freed, the new list is staged.
  module _ {new : List Bool} (released : IsReleased mid new gone) where
    left_claims : ClaimsJust new (used ++ left)
    left_claims = released.each (used ++ left) after_claims after_once

    left_once : AreDistinct (used ++ left)
    left_once = distinct-first (used ++ left) gone after_once

    left_inside : All (IsUsable kept.root.sectors) (used ++ left)
    left_inside = all-part (IsUsable kept.root.sectors) (used ++ left) ((used ++ left) ++ gone) (λ s found. Contains-append_left (used ++ left) gone s found) after_inside

    new_size : length new ≡ kept.root.sectors
    new_size = released.size ∙ is.claimed.size ∙ size

    -- The number of unused sectors grows by those that the line frees, less those that it takes.
    pub restaged_free : unused_count new + length more ≡ unused_count kept.layout + length gone
    restaged_free = omega (
      arith,
      unused_count-used kept.layout (used ++ own) own_once (λ k d lt. (own_inside k d lt).0) own_claims,
      unused_count-used new (used ++ left) left_once (λ k d lt. (left_inside k d lt).0) left_claims,
      size,
      new_size,
      length-append used own,
      length-append used left,
      is.count,
    )

    pub restaged : {after : Kept} → KeepsList kept after → after.layout ≡ new
        → spare_of (length (catalogues_of kept.root)) (length others) + length more ≤ unused_count kept.layout + length gone → IsStagedIn after others
    restaged {after = after} same layout room = record {
      standing = is.staged.standing;
      stands = subst (λ root. IsKept root after.entries.items after.held is.staged.standing) (sym same.root)
          (subst (λ l. IsKept kept.root l.items after.held is.staged.standing) (sym same.entries)
          (subst (λ held. IsKept kept.root kept.entries.items held is.staged.standing) (sym same.held) is.staged.stands));
      claimed = subst (λ l. IsClaimedBeside is.staged.standing l (own_sectors_in after.entries.items others)) (sym layout)
          (subst (λ l. IsClaimedBeside is.staged.standing new (own_sectors_in l.items others)) (sym same.entries)
          (claimed_beside is.staged.standing new used left (new_size ∙ sym is.staged.stands.size) is.staged.stands.claimed.claims left_claims left_once
          (subst (λ n. All (IsUsable n) left) (sym is.staged.stands.size)
          (all-part (IsUsable kept.root.sectors) left (used ++ left) (λ s found. Contains-append_right used left s found) left_inside))));
      room = omega (arith, room, restaged_free, ap unused_count layout, ap (λ root. length (catalogues_of root)) same.root);
    }
