-- Writes to sectors that aren't used by the current state, by held byte strings, or by what the draft wrote before.
use Rattle.std.proofs.Common.{◌≡◌, inr, ⊎_elim, ℕ, zero, suc, ◌<◌, Bool, List, [], ◌∷◌, ◌++◌, length, get_or, All, IsTrue, IsFalse, Result, Ok, Err, sym, subst, ◌∙◌, arith}
use Rattle.std.specs.Prelude.{Contains}
use Rattle.std.proofs.lemmas.Bool.{cases_Bool, false≢true}
use Rattle.std.proofs.lemmas.List.Elements.{All-append, All-contains, Contains-append_left, Contains-append_right}
use Rattle.sector_disk.specs.Disk.{AreCallsExactly, DiskFacts, IsMixtureBut, LeavesOnly, Mixture, SameBut, Sector, sector}
use Rattle.sector_disk.proofs.Moments.{left_now, weaken}
use Rattle.passes.proofs.Commits.{wider}
use Rattle.passes.specs.Calls.{AreCallsInRow}
use Rattle.passes.proofs.Rows.{in_row_at_most, in_row_exactly}
use Rattle.roots.specs.declared.root.Root.{Root}
use Rattle.roots.specs.declared.version.Version.TheVariants.{Two}
use Rattle.states.specs.State.{State}
use Rattle.store.specs.declared.placed_entry.PlacedEntry.{PlacedEntry}
use Rattle.store.specs.declared.holds.HeldRow.{HeldRow}
use Rattle.store.specs.declared.refusal.StoreRefusal.{StoreRefusal}
use Rattle.store.specs.declared.refusal.StoreRefusal.TheVariants.{Device}
use Rattle.store.specs.Draft.{Drafted, IsLine, IsSameDraft, StaysBeside, lists}
use Rattle.store.specs.Holds.{KeepsHolders, in_use, lone_sectors}
use Rattle.store.specs.Opened.{IsAt}
use Rattle.store.specs.Stands.{Stands, StandsBy, sectors_of, used}
use Rattle.store.specs.inside.Claimed.{IsClaimedBeside, IsUsable}
use Rattle.store.specs.inside.Draft.{IsOneOrApart, own_in, own_sectors_in}
use Rattle.store.specs.inside.Kept.{IsKept}
use Rattle.store.specs.inside.Room.{IsRootOr}
use Rattle.store.proofs.Anew.{all_usable, more_free, more_inside}
use Rattle.store.proofs.Claiming.{claims_more}
use Rattle.store.proofs.Drafts.{own_unlisted}
use Rattle.store.proofs.Holding.{err_is}
use Rattle.store.proofs.KeepsHolders.{keeps_table, listed_used}
use Rattle.store.proofs.UsedAlone.{same_used}
use Rattle.passes.proofs.Parts.{distinct-parts}

-- The sectors of a draft's entries are in use by the current state, or the update wrote them.
pub drafted_sectors : (root : Root) (standing : List PlacedEntry) (held : List HeldRow) (entries : List PlacedEntry) → All (IsOneOrApart standing) entries
    → (i : ℕ) (d : PlacedEntry) → i < length entries → (k : ℕ) → Contains (sectors_of (get_or entries i d)) k
    → Contains (in_use root standing held ++ own_sectors_in standing entries) k
drafted_sectors root standing held entries each i d lt k found = ⊎_elim
    (λ listed. Contains-append_left (in_use root standing held) (own_sectors_in standing entries) k
    (Contains-append_left (used root standing) (lone_sectors held) k (listed_used root standing (get_or entries i d) (each i d lt listed) k found)))
    (λ isnt. Contains-append_right (in_use root standing held) (own_sectors_in standing entries) k
    (among entries i d lt (subst (λ l. Contains l k) (sym (own_unlisted standing (get_or entries i d) isnt)) found)))
    (cases_Bool (lists standing (get_or entries i d)))
  where
    among : (l : List PlacedEntry) (i : ℕ) (d : PlacedEntry) → i < length l → Contains (own_in standing (get_or l i d)) k → Contains (own_sectors_in standing l) k
    among [] i d lt found = absurd (omega (arith, lt))
    among (e ∷ l) zero d lt found = Contains-append_left (own_in standing e) (own_sectors_in standing l) k found
    among (e ∷ l) (suc i) d lt found = Contains-append_right (own_in standing e) (own_sectors_in standing l) k (among l i d (omega (arith, lt)) found)

-- The current state, and what a draft wrote beside it.
module _ {root : Root} {standing : List PlacedEntry} {held : List HeldRow} {before layout : List Bool} {own : List ℕ}
    (stands : IsKept root standing held before) (claimed : IsClaimedBeside before layout own) where
  -- all these sectors lie on the disk, after the roots
  pub drafted_usable : All (IsUsable root.sectors) (in_use root standing held ++ own)
  drafted_usable = All-append (IsUsable root.sectors) (in_use root standing held) own (all_usable stands) (more_inside stands claimed)

  -- More sectors are claimed.
  module _ {new : List Bool} {more : List ℕ} (taken : IsClaimedBeside layout new more) where
    pub joined : IsClaimedBeside before new (own ++ more)
    joined = claims_more before layout new own more claimed taken

    in_joined : (k : ℕ) → Contains more k → Contains (own ++ more) k
    in_joined k found = Contains-append_right own more k found

    pub beside_free : (k : ℕ) → Contains more k → Contains (in_use root standing held) k → ⊥
    beside_free k found there = more_free stands joined k (in_joined k found) there

    -- the sectors `more` aren't used by the current state, by held byte strings, or by what was written before
    pub beside_apart : (k : ℕ) → Contains (in_use root standing held ++ own) k → Contains more k → ⊥
    beside_apart k found here = distinct-parts (in_use root standing held ++ own) more k
        (taken.once (in_use root standing held ++ own) (claimed.each (in_use root standing held) stands.claimed.claims) (claimed.once (in_use root standing held) stands.claimed.claims stands.claimed.once))
        found here

    beside_low : (k : ℕ) → k < 2 → Contains more k → ⊥
    beside_low k low found = omega (arith, low, (All-contains (IsUsable root.sectors) (own ++ more) k (more_inside stands joined) (in_joined k found)).0)

    -- Each mixture in which only the sectors `more` were changed holds the current state.
    pub beside_stands : {m m' : List Sector} {s : State} → StandsBy Two m root standing s → SameBut (Contains more) m m' → StandsBy Two m' root standing s
    beside_stands {m = m} {m' = m'} {s = s} by same = same_used Two m m' root standing s (Contains more) by same beside_low
        (λ k used here. beside_free k here (Contains-append_left _ (lone_sectors held) k used))

    module _ {before_it after : DiskFacts} (leaves : LeavesOnly before_it after (IsMixtureBut (Contains more) before_it)) where
      pub beside_moment : {s : State} → ((m : List Sector) → Mixture before_it m → StandsBy Two m root standing s) → LeavesOnly before_it after (λ m. Stands m s)
      beside_moment {s = s} is = weaken (IsMixtureBut (Contains more) before_it) (λ m. Stands m s)
          (λ m but. (root, standing, beside_stands (is but.0 but.1) but.2)) leaves

      pub beside_at : {s : State} → ((m : List Sector) → Mixture before_it m → StandsBy Two m root standing s) → (m : List Sector) → Mixture after m → StandsBy Two m root standing s
      beside_at is m mixture =
          let but = left_now (IsMixtureBut (Contains more) before_it) leaves m mixture in
          beside_stands (is but.0 but.1) but.2

    -- Held byte strings keep their holders and their bytes.
    pub beside_held : {before_it after : DiskFacts} → (IsTrue before_it.honest → LeavesOnly before_it after (IsMixtureBut (Contains more) before_it)) → KeepsHolders before_it after held held
    beside_held {before_it = before_it} leaves = keeps_table stands more beside_free
        (λ honest m mixture.
        let but = left_now (IsMixtureBut (Contains more) before_it) (leaves honest) m mixture in
        (but.0, but.1, wider {more = IsRootOr more} (λ k found. inr found) but.2))

    -- Reads of the sectors that were in use return what they returned before.
    pub beside_now : {now now' : List Sector} → SameBut (Contains more) now now' → (k : ℕ) → Contains (in_use root standing held ++ own) k → sector now' k ≡ sector now k
    beside_now same k found = same.others k (λ here. beside_apart k found here)

-- A line wrote to sectors that were claimed for it.
module _ {D : Type 0} (facts : D → DiskFacts) (old new : Drafted D) {before layout mid : List Bool} {own more : List ℕ}
    (stands : IsKept old.store.root old.store.entries old.store.held before) (claimed : IsClaimedBeside before layout own) (taken : IsClaimedBeside layout mid more)
    (root : new.store.root ≡ old.store.root) (entries : new.store.entries ≡ old.store.entries) (table : new.store.held ≡ old.store.held)
    (leaves : IsTrue (facts old.store.disk).honest → LeavesOnly (facts old.store.disk) (facts new.store.disk) (IsMixtureBut (Contains more) (facts old.store.disk))) where
  pub stays_beside : StaysBeside facts old new
  stays_beside = record {
    any_moment = λ s at. beside_moment stands claimed taken (leaves at.honest) at.stands;
    root = root;
    entries = entries;
    table = table;
    held = subst (KeepsHolders (facts old.store.disk) (facts new.store.disk) old.store.held) (sym table) (beside_held stands claimed taken leaves);
  }

  module _ {T E : Type 0} {n : ℕ} {result : Result T E} (calls : AreCallsInRow n (facts old.store.disk) (facts new.store.disk) result) where
    -- If no call failed, the store is at the state that it was at before the line.
    pub stands_beside : IsFalse new.store.failed → {s : State} → IsAt facts old.store s → IsAt facts new.store s
    stands_beside usable {s = s} at = record {
      honest = subst IsTrue (sym calls.honest) at.honest;
      usable = usable;
      stands = λ m mixture. subst (λ r. StandsBy Two m r new.store.entries s) (sym root)
          (subst (λ l. StandsBy Two m old.store.root l s) (sym entries) (beside_at stands claimed taken (leaves at.honest) at.stands m mixture));
    }

  module _ {T E : Type 0} {n most : ℕ} {Refuses : StoreRefusal → Type 0} (usable : IsFalse old.store.failed) (all : n ≡ most) where
    -- If all writes succeed, the line is done.
    pub line_wrote : {x : T} → AreCallsInRow {E = E} n (facts old.store.disk) (facts new.store.disk) (Ok x) → IsFalse new.store.failed → IsLine facts old new most Refuses (Ok tt)
    line_wrote calls still_usable = record {
      beside = stays_beside;
      changed = record {
        reopen = (λ is. absurd (cc is), λ failed. absurd (false≢true (sym usable ∙ failed)));
        device = tt;
        same = tt;
        usable = still_usable;
        refusals = tt;
        all_calls = subst (λ k. AreCallsExactly k (facts old.store.disk) (facts new.store.disk)) all (in_row_exactly calls);
        calls = in_row_at_most calls (omega (arith, all));
      };
      refused = tt;
    }

    -- If a write fails, the line is refused with Device.
    pub line_failed : {x : E} (e : StoreRefusal) → e ≡ Device → AreCallsInRow {T = T} n (facts old.store.disk) (facts new.store.disk) (Err x) → IsTrue new.store.failed → Refuses Device
        → IsSameDraft old new → IsLine facts old new most Refuses (Err e)
    line_failed e device calls failed may same = record {
      beside = stays_beside;
      changed = record {
        reopen = (λ is. absurd (cc (device, err_is is)), λ was. absurd (false≢true (sym usable ∙ was)));
        device = λ _. (omega (arith, calls.err), failed);
        same = λ other. absurd (other device);
        usable = tt;
        refusals = subst Refuses (sym device) may;
        all_calls = tt;
        calls = in_row_at_most calls (omega (arith, all));
      };
      refused = same;
    }
