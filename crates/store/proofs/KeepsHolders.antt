-- The facts about held byte strings that calls keep.
use Rattle.std.proofs.Common.{◌≡◌, ⊎_elim, ℕ, Bool, List, [], ◌∷◌, length, get_or, take, IsTrue, refl, sym, ap, subst, ◌∙◌, arith}
use Rattle.std.specs.Prelude.{Contains, if◌then◌else◌}
use Rattle.std.proofs.lemmas.Bool.{cases_Bool}
use Rattle.std.proofs.lemmas.List.Elements.{All-contains, Contains-append_left, Contains-append_right}
use Rattle.std.proofs.lemmas.List.Sums.{get_or-le-sum_by}
use Rattle.sector_disk.specs.Disk.{Sector, DiskFacts, Mixture, IsMixtureBut}
use Rattle.extents.specs.Extent.{places}
use Rattle.passes.proofs.Runs.{bytes_at_same}
use Rattle.roots.specs.declared.root.Root.{Root}
use Rattle.states.specs.State.{Library}
use Rattle.store.specs.declared.placed_entry.PlacedEntry.{PlacedEntry}
use Rattle.store.specs.declared.holds.HeldRow.{HeldRow}
use Rattle.store.specs.Stands.{extents_of, library_of, name_of, sectors_of, used}
use Rattle.store.specs.Holds.{in_use, lone_sectors, own_sectors, IsHeldBy, KeepsHolders}
use Rattle.store.specs.Opened.{Opened}
use Rattle.store.specs.inside.Claimed.{IsUsable}
use Rattle.store.specs.inside.HeldRows.{IsLeft}
use Rattle.store.specs.inside.Kept.{IsKept}
use Rattle.store.specs.inside.Room.{IsRootOr}
use Rattle.store.specs.inside.Unlisted.{KeepsRows}
use Rattle.store.proofs.Anew.{all_usable}
use Rattle.store.proofs.Counts.{occurs, occurs-flat_map, occurs_contains, contains_occurs}
use Rattle.store.proofs.KeyedRows.{no_row}
use Rattle.store.proofs.HeldRows.{by_left, by_left_back, holders_left}
use Rattle.store.proofs.UsedAlone.{among_used}

-- the sectors of an entry that the state lists are in use by the state
pub listed_used : (root : Root) (entries : List PlacedEntry) (placed : PlacedEntry) → Contains entries placed → (k : ℕ) → Contains (sectors_of placed) k → Contains (used root entries) k
listed_used root entries placed found k its = among_used root entries found.0 placed found.1 k (subst (λ p. Contains (sectors_of p) k) (sym found.2) its)

-- changing only root sectors and sectors that aren't in use changes no sector in use
pub apart_from : {root : Root} {entries : List PlacedEntry} {held : List HeldRow} {layout : List Bool} → (kept : IsKept root entries held layout)
    → (changed : List ℕ) → ((k : ℕ) → Contains changed k → Contains (in_use root entries held) k → ⊥) → (k : ℕ)
    → Contains (in_use root entries held) k → IsRootOr changed k → ⊥
apart_from {root = root} {entries = entries} {held = held} kept changed apart k found either = ⊎_elim
    (λ low. omega (arith, low, (All-contains (IsUsable root.sectors) (in_use root entries held) k (all_usable kept) found).0))
    (λ here. apart k here found)
    either

module _ {root : Root} {entries : List PlacedEntry} {held : List HeldRow} {layout : List Bool} (kept : IsKept root entries held layout) where
  -- The sectors of a held byte string are in use, by the state or by its holders.
  pub held_in_use : {at : ℕ} {placed : PlacedEntry} → IsHeldBy held at placed → (k : ℕ) → Contains (sectors_of placed) k → Contains (in_use root entries held) k
  held_in_use {placed = placed} by k found = ⊎_elim
      (λ listed.
      let among : Contains entries placed = subst (Contains entries) (by.is no_row) ((kept.rows.each by.place no_row by.inside).listed listed) in
      Contains-append_left (used root entries) (lone_sectors held) k (listed_used root entries placed among k found))
      (λ isnt.
      let row = get_or held by.place no_row in
      let its : occurs k (own_sectors row) ≡ occurs k (sectors_of placed) = ap (λ b. occurs k (if b then [] else sectors_of row.placed)) isnt ∙ ap (λ p. occurs k (sectors_of p)) (by.is no_row) in
      Contains-append_right (used root entries) (lone_sectors held) k (occurs_contains k (lone_sectors held) (omega (
        arith,
        its,
        contains_occurs k (sectors_of placed) found,
        occurs-flat_map k own_sectors held,
        get_or-le-sum_by (λ (h : HeldRow). occurs k (own_sectors h)) held by.place no_row by.inside,
      ))))
      (cases_Bool (get_or held by.place no_row).listed)

  module _ {before after : DiskFacts} (changed : List ℕ) (apart : (k : ℕ) → Contains changed k → Contains (in_use root entries held) k → ⊥)
      (others : IsTrue before.honest → (m : List Sector) → Mixture after m → IsMixtureBut (IsRootOr changed) before m) where
    -- A held byte string keeps its bytes on a disk of which only other sectors were changed.
    held_bytes : IsTrue before.honest → {at : ℕ} {placed : PlacedEntry} → IsHeldBy held at placed → (library : Library)
        → ((m : List Sector) → Mixture before m → library_of m placed ≡ library) → (m : List Sector) → Mixture after m → library_of m placed ≡ library
    held_bytes honest {placed = placed} by library stands m mixture =
        let but = others honest m mixture in
        let sectors = places (extents_of placed.entry) in
        let same = bytes_at_same but.0 m sectors (λ k found. but.2.others k (apart_from kept changed apart k (held_in_use by k (Contains-append_right (placed.at ∷ []) sectors k found)))) in
        (λ i. record { name = name_of placed.entry; bytes = take placed.entry.file_length (same i) }) ∙ stands but.0 but.1

    -- A change of other sectors keeps everything that is held.
    pub keeps_table : KeepsHolders before after held held
    keeps_table = record {
      holders = λ sector. refl;
      bytes = λ honest at library is. record { placed = is.placed; by = is.by; stands = held_bytes honest is.by library is.stands };
      holds = λ at placed. (λ by. by, λ by. by);
      none = λ none. none;
    }

    -- A change of other sectors keeps everything that is held, also if the state no longer lists some held byte
    -- strings.
    pub keeps_rows : {new : List HeldRow} → KeepsRows held new → KeepsHolders before after held new
    keeps_rows rows = record {
      holders = rows.holders;
      bytes = λ honest at library is. record { placed = is.placed; by = (rows.holds at is.placed).0 is.by; stands = held_bytes honest is.by library is.stands };
      holds = rows.holds;
      none = rows.none;
    }

    -- A change of other sectors keeps everything that is held, also if the state no longer lists one held byte string.
    pub keeps_left : {new : List HeldRow} → {at : ℕ} → IsLeft held new at → KeepsHolders before after held new
    keeps_left {new = new} left = record {
      holders = holders_left left;
      bytes = λ honest at library is. record { placed = is.placed; by = by_left left is.by; stands = held_bytes honest is.by library is.stands };
      holds = λ at placed. (λ by. by_left left by, λ by. by_left_back left by);
      none = λ none. absurd (omega (arith, left.at.inside, ap length none));
    }

-- Reads keep everything that is held.
pub keeps_reads : {before after : DiskFacts} (held : List HeldRow) → (IsTrue before.honest → (m : List Sector) → Mixture after m → Mixture before m) → KeepsHolders before after held held
keeps_reads held still = record {
  holders = λ sector. refl;
  bytes = λ honest sector library is. record { placed = is.placed; by = is.by; stands = λ m mixture. is.stands m (still honest m mixture) };
  holds = λ at placed. (λ by. by, λ by. by);
  none = λ none. none;
}

-- what changes neither the disk nor the table keeps everything that is held
pub keeps_same : {D : Type 0} (facts : D → DiskFacts) {old view : Opened D} → view ≡ old → KeepsHolders (facts old.disk) (facts view.disk) old.held view.held
keeps_same facts {view = view} is = subst (λ store. KeepsHolders (facts store.disk) (facts view.disk) store.held view.held) is (keeps_reads view.held (λ honest m mixture. mixture))
