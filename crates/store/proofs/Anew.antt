-- The sectors in use before and after a change, and those that the change takes and gives back.
use Rattle.std.proofs.Common.{◌≡◌, ℕ, ◌+◌, Bool, List, [], ◌∷◌, ◌++◌, length, All, refl, sym, ap, subst, ◌∙◌, arith}
use Rattle.std.specs.Prelude.{Contains}
use Rattle.std.proofs.lemmas.List.{append-nil}
use Rattle.std.proofs.lemmas.List.Elements.{All-append, Contains-append_left}
use Rattle.std.proofs.lemmas.List.Sums.{sum_by-cons}
use Rattle.extents.specs.declared.extent.Extent.{Extent}
use Rattle.extents.specs.Extent.{places, AreDistinct}
use Rattle.extents.specs.Used.{ClaimsJust}
use Rattle.extents.proofs.UsedLemmas.{claims-same_elements}
use Rattle.roots.specs.declared.root.Root.{Root}
use Rattle.store.specs.declared.placed_entry.PlacedEntry.{PlacedEntry}
use Rattle.store.specs.declared.holds.HeldRow.{HeldRow}
use Rattle.store.specs.Holds.{in_use, lone_sectors}
use Rattle.store.specs.Stands.{UsesApart, extents_of, sectors_of, used}
use Rattle.store.specs.inside.Claimed.{IsUsable, IsClaimedBeside}
use Rattle.store.specs.inside.Kept.{AreClaimed, IsKept}
pub use Rattle.store.specs.inside.Moved.{IsMoved}
use Rattle.store.specs.inside.Room.{AreClaimedOnce, IsReleased}
use Rattle.passes.proofs.Parts.{distinct-parts}
use Rattle.store.proofs.Claiming.{all-part}
use Rattle.store.proofs.Counts.{one, occurs, occurs-append, contains_occurs, occurs_contains, distinct_occurs, occurs_distinct}

-- all sectors that are in use lie on the disk, after the roots
pub all_usable : {root : Root} {entries : List PlacedEntry} {held : List HeldRow} {layout : List Bool} → (kept : IsKept root entries held layout)
    → All (IsUsable root.sectors) (in_use root entries held)
all_usable {root = root} {entries = entries} {held = held} kept = All-append (IsUsable root.sectors) (used root entries) (lone_sectors held) kept.apart.inside kept.claimed.inside

-- two lists in which each number occurs equally often have the same elements
pub same_elements : (a b : List ℕ) → ((k : ℕ) → occurs k a ≡ occurs k b) → (s : ℕ) → Contains a s → Contains b s
same_elements a b counts s found = occurs_contains s b (omega (arith, counts s, contains_occurs s a found))

pub claims_as : (flags : List Bool) (a b : List ℕ) → ((k : ℕ) → occurs k a ≡ occurs k b) → ClaimsJust flags a → ClaimsJust flags b
claims_as flags a b counts just = claims-same_elements flags a b (λ s. (same_elements a b counts s, same_elements b a (λ k. sym (counts k)) s)) just

pub distinct_as : (a b : List ℕ) → ((k : ℕ) → occurs k a ≡ occurs k b) → AreDistinct a → AreDistinct b
distinct_as a b counts once = occurs_distinct b (λ k. omega (arith, counts k, distinct_occurs k a once))

-- if sectors are claimed, the same sectors in another order are claimed
pub claimed_as : (old mid : List Bool) (a b : List ℕ) → ((k : ℕ) → occurs k a ≡ occurs k b) → IsClaimedBeside old mid a → IsClaimedBeside old mid b
claimed_as old mid a b counts claimed = record {
  size = claimed.size;
  each = λ used just. claims_as mid (used ++ a) (used ++ b) (beside used) (claimed.each used just);
  once = λ used just once. distinct_as (used ++ a) (used ++ b) (beside used) (claimed.once used just once);
  inside = all-part (IsUsable (length old)) b a (same_elements b a (λ k. sym (counts k))) claimed.inside;
}
  where
    beside : (used : List ℕ) (k : ℕ) → occurs k (used ++ a) ≡ occurs k (used ++ b)
    beside used k = omega (arith, occurs-append k used a, occurs-append k used b, counts k)

-- if the room of a put is claimed, the sectors of its entry and of its catalogues are claimed
pub put_claimed : (old mid : List Bool) (extents : List Extent) (at : ℕ) (catalogues : List ℕ) (put : PlacedEntry) → extents_of put.entry ≡ extents → put.at ≡ at
    → IsClaimedBeside old mid (places extents ++ at ∷ catalogues) → IsClaimedBeside old mid (sectors_of put ++ catalogues)
put_claimed old mid extents at catalogues put its there claimed =
    subst (λ l. IsClaimedBeside old mid (put.at ∷ places l ++ catalogues)) (sym its)
    (subst (λ n. IsClaimedBeside old mid (n ∷ places extents ++ catalogues)) (sym there)
    (claimed_as old mid (places extents ++ at ∷ catalogues) (at ∷ places extents ++ catalogues) counts claimed))
  where
    counts : (k : ℕ) → occurs k (places extents ++ at ∷ catalogues) ≡ occurs k (at ∷ places extents ++ catalogues)
    counts k = omega (
      arith,
      occurs-append k (places extents) (at ∷ catalogues),
      sum_by-cons (one k) at catalogues,
      sum_by-cons (one k) at (places extents ++ catalogues),
      occurs-append k (places extents) catalogues,
    )

-- if nothing is given back, the layout stays the same
pub released_nothing : (mid : List Bool) → IsReleased mid mid []
released_nothing mid = record { size = refl; each = λ kept just once. subst (ClaimsJust mid) (append-nil kept) just }

module _ {root : Root} {entries : List PlacedEntry} {held : List HeldRow} {layout mid : List Bool} {more : List ℕ}
    (kept : IsKept root entries held layout) (claimed : IsClaimedBeside layout mid more) where
  abbrev before : List ℕ
  before = in_use root entries held

  -- the sectors that were in use, and those that are taken
  abbrev all : List ℕ
  all = before ++ more

  claims : ClaimsJust mid all
  claims = claimed.each before kept.claimed.claims

  once : AreDistinct all
  once = claimed.once before kept.claimed.claims kept.claimed.once

  -- the taken sectors lie on the disk, after the roots
  pub more_inside : All (IsUsable root.sectors) more
  more_inside = subst (λ n. All (IsUsable n) more) kept.size claimed.inside

  inside : All (IsUsable root.sectors) all
  inside = All-append (IsUsable root.sectors) before more (all_usable kept) more_inside

  pub more_once : AreDistinct more
  more_once = occurs_distinct more (λ k. omega (arith, occurs-append k before more, distinct_occurs k all once))

  -- no taken sector was in use, by the state or by a holder
  pub more_free : (k : ℕ) → Contains more k → Contains (in_use root entries held) k → ⊥
  more_free k found there = distinct-parts before more k once there found

  pub more_unused : (k : ℕ) → Contains more k → Contains (used root entries) k → ⊥
  more_unused k found there = more_free k found (Contains-append_left (used root entries) (lone_sectors held) k there)

  size : length mid ≡ root.sectors
  size = claimed.size ∙ kept.size

  pub moved_size : (new : List Bool) {back : List ℕ} → IsReleased mid new back → length new ≡ root.sectors
  moved_size new released = released.size ∙ size

  -- the taken sectors can be given back: they are claimed, each once
  pub more_held : AreClaimedOnce mid more
  more_held = (before, claims, once, subst (λ n. All (IsUsable n) more) (sym size) more_inside)

  pub back_kept : (new : List Bool) → IsReleased mid new more → IsKept root entries held new
  back_kept new released = record {
    root_fits = kept.root_fits;
    size = released.size ∙ size;
    counted = kept.counted;
    entries_fit = kept.entries_fit;
    apart = kept.apart;
    room = kept.room;
    names = kept.names;
    rows = kept.rows;
    claimed = record { inside = kept.claimed.inside; once = kept.claimed.once; claims = released.each before claims once };
  }

  -- After the change, no sector is used twice either, and the sectors that are no longer used can be given back.
  module _ (next : Root) (others : List PlacedEntry) {gone : List ℕ} (moved : IsMoved (used root entries) more (used next others) gone) where
    -- the sectors in use if holders keep the sectors that they had
    abbrev after : List ℕ
    after = used next others ++ lone_sectors held

    counts : (k : ℕ) → occurs k all ≡ occurs k (after ++ gone)
    counts k = omega (
      arith,
      moved.parts k,
      occurs-append k (used root entries) more,
      occurs-append k (used root entries) (lone_sectors held),
      occurs-append k before more,
      occurs-append k (used next others) (lone_sectors held),
      occurs-append k after gone,
    )

    pub moved_apart : UsesApart root.sectors next others
    moved_apart = record {
      inside = all-part (IsUsable root.sectors) (used next others) all
          (λ s found. occurs_contains s all (omega (
            arith,
            counts s,
            occurs-append s after gone,
            occurs-append s (used next others) (lone_sectors held),
            contains_occurs s
                (used next others) found,
          ))) inside;
      once = occurs_distinct (used next others) (λ k. omega (arith, counts k, occurs-append k after gone, occurs-append k (used next others) (lone_sectors held), distinct_occurs k all once));
    }

    pub moved_held : AreClaimedOnce mid gone
    moved_held = (
      after,
      claims_as mid all (after ++ gone) counts claims,
      distinct_as all (after ++ gone) counts once,
      subst (λ n. All (IsUsable n) gone) (sym size)
          (all-part (IsUsable root.sectors) gone all (λ s found. occurs_contains s all (omega (arith, counts s, occurs-append s after gone, contains_occurs s gone found))) inside),
    )

    pub moved_claimed : (new : List Bool) → IsReleased mid new gone → AreClaimed root.sectors new (used next others) (lone_sectors held)
    moved_claimed new released = record {
      inside = kept.claimed.inside;
      once = occurs_distinct after (λ k. omega (arith, counts k, occurs-append k after gone, distinct_occurs k all once));
      claims = released.each after (claims_as mid all (after ++ gone) counts claims) (distinct_as all (after ++ gone) counts once);
    }

    -- Holders keep some of the sectors that the state gave up, and the others are given back.
    module _ (lone freed own catalogues : List ℕ) (is : gone ≡ own ++ catalogues) (parts : (k : ℕ) → occurs k lone + occurs k freed ≡ occurs k (lone_sectors held) + occurs k own) where
      abbrev left : List ℕ
      left = used next others ++ lone

      left_counts : (k : ℕ) → occurs k all ≡ occurs k (left ++ (freed ++ catalogues))
      left_counts k = omega (
        arith,
        counts k,
        parts k,
        ap (occurs k) is,
        occurs-append k after gone,
        occurs-append k own catalogues,
        occurs-append k (used next others) (lone_sectors held),
        occurs-append k left (freed ++ catalogues),
        occurs-append k freed catalogues,
        occurs-append k (used next others) lone,
      )

      pub left_claimed : (new : List Bool) → IsReleased mid new (freed ++ catalogues) → AreClaimed root.sectors new (used next others) lone
      left_claimed new released = record {
        inside = all-part (IsUsable root.sectors) lone all
            (λ s found. occurs_contains s all (omega (arith, left_counts s, occurs-append s left (freed ++ catalogues), occurs-append s (used next others) lone, contains_occurs s lone found))) inside;
        once = occurs_distinct left (λ k. omega (arith, left_counts k, occurs-append k left (freed ++ catalogues), distinct_occurs k all once));
        claims = released.each left (claims_as mid all (left ++ (freed ++ catalogues)) left_counts claims) (distinct_as all (left ++ (freed ++ catalogues)) left_counts once);
      }
