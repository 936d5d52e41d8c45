-- Holding, reading and releasing a byte string: what a store keeps of it, and what its holders may rely on.
use Rattle.std.proofs.Common.{◌≡◌, ◌⊎◌, inl, inr, ⊎_elim, ◌↔◌, ℕ, ◌+◌, ◌-◌, ◌<◌, ◌≤◌, ◌==◌, Bool, true, false, if◌then◌else◌, List, [], ◌∷◌, ◌++◌}
use Rattle.std.proofs.Common.{length, get_or, All, IsTrue, IsFalse, Result, Ok, Err, IfErr, IfOk, OnOk, refl, sym, ap, subst, ◌∙◌, arith}
use Rattle.std.specs.Global.{Vec}
use Rattle.std.specs.Int.{div_ceil}
use Rattle.std.proofs.lemmas.Bool.{cases_Bool, eqb-true, false≢true}
use Rattle.std.proofs.lemmas.List.{get_or-map, get_or_default}
use Rattle.std.proofs.lemmas.List.Elements.{All-contains, Contains-append_right}
use Rattle.sector_disk.specs.Disk.{DiskFacts, HoldsNow, sector_bytes, AreCallsAtMost, AreCallsExactly}
use Rattle.sector_disk.proofs.Moments.{no_calls}
use Rattle.extents.specs.Extent.{Has, places}
use Rattle.passes.specs.Bytes.{IsOnDisk}
use Rattle.passes.specs.Calls.{AreReads}
use Rattle.passes.proofs.Extents.{run_in_places}
use Rattle.passes.proofs.Readings.{no_reads, still_mixture}
use Rattle.roots.specs.declared.root.Root.{Root}
use Rattle.roots.specs.Entry.{EntryHasSpelling}
use Rattle.states.specs.State.{Library, State}
use Rattle.store.specs.declared.placed_entry.PlacedEntry.{PlacedEntry}
use Rattle.store.specs.declared.holds.HeldRow.{HeldRow}
use Rattle.store.specs.declared.refusal.StoreRefusal.{StoreRefusal}
use Rattle.store.specs.declared.refusal.StoreRefusal.TheVariants.{Device, Reopen, Damaged, OutOfMemory}
use Rattle.store.specs.Stands.{HasRoom, extents_of, library_of, no_library, sectors_of, used}
use Rattle.store.specs.Holds.{holders_of, in_use, lone_sectors, IsHeldBy, TakesHold, LetsHoldGo, ReadsHeld}
use Rattle.store.specs.Opened.{IsAt, Opened}
use Rattle.store.specs.inside.Claimed.{IsUsable}
use Rattle.store.specs.inside.HeldRows.{AreHeldRows, IsHeldLess, IsHeldMore, IsHeldOnce, IsLetGo, IsUnheld}
use Rattle.store.specs.inside.Kept.{AreClaimed, IsKept}
use Rattle.store.specs.inside.Room.{AreClaimedOnce, IsReleased}
use Rattle.store.proofs.Anew.{all_usable, claims_as, distinct_as, released_nothing}
use Rattle.store.proofs.Beside.{room_more}
use Rattle.store.proofs.Claiming.{all-part}
use Rattle.store.proofs.Counts.{occurs, occurs-append, contains_occurs, occurs_contains, distinct_occurs, occurs_distinct}
use Rattle.store.proofs.GivenUp.{flags, row_is}
use Rattle.store.proofs.KeyedRows.{no_row}
use Rattle.store.proofs.KeepsHolders.{held_in_use, keeps_reads}
use Rattle.store.proofs.HeldRows.{by_first, by_gone, by_gone_back, by_less, by_less_back, by_more, by_once, by_one, by_place, by_some, gone_length}
use Rattle.store.proofs.HeldRows.{gone_listed_length, gone_listed_occurs, gone_occurs, held_gone, held_less, held_more, held_once, holders_gone}
use Rattle.store.proofs.HeldRows.{holders_less, holders_more, holders_once, holders_unheld, lone_less, lone_more, lone_once}
use Rattle.store.proofs.UsedAlone.{no_entry}

-- two equal Err results have the same refusal
pub err_is : {T E : Type 0} {e other : E} → ◌≡◌ {A = Result T E} (Err e) (Err other) → e ≡ other
err_is {e = e} is = subst (λ r. IfErr r (λ y. e ≡ y)) is refl

-- a store with another table of held byte strings
abbrev pub with_held : {D : Type 0} → Opened D → List HeldRow → Opened D
with_held store held = record { disk = store.disk; root = store.root; entries = store.entries; held = held; failed = store.failed }

module _ {root : Root} {entries : List PlacedEntry} {held : List HeldRow} {layout : List Bool} (kept : IsKept root entries held layout) where
  -- The entry of a held byte string can be encoded, and its extents end on the disk.
  pub held_fits : {at : ℕ} {placed : PlacedEntry} → IsHeldBy held at placed → EntryHasSpelling placed.entry
  held_fits by = subst (λ (p : PlacedEntry). EntryHasSpelling p.entry) (by.is no_row) (kept.rows.each by.place no_row by.inside).fits

  pub held_on_disk : {at : ℕ} {placed : PlacedEntry} → IsHeldBy held at placed → All (IsOnDisk root.sectors) (extents_of placed.entry)
  held_on_disk {placed = placed} by j e in_extents =
      let extent = get_or (extents_of placed.entry) j e in
      let filled : 1 ≤ extent.count = ((held_fits by).extents.listed.used j e in_extents).filled in
      let last : Has extent (extent.start + extent.count - 1) = (omega (arith, filled), omega (arith, filled)) in
      let found = Contains-append_right (placed.at ∷ []) (places (extents_of placed.entry)) (extent.start + extent.count - 1)
      (run_in_places (extents_of placed.entry) j e in_extents (extent.start + extent.count - 1) last) in
      let usable = All-contains (IsUsable root.sectors) (in_use root entries held) (extent.start + extent.count - 1) (all_usable kept) (held_in_use kept by (extent.start + extent.count - 1) found) in
      omega (arith, usable.1, filled)

  -- A byte string that the state lists gets one more holder: no more sectors are in use.
  pub kept_held : {new : List HeldRow} → AreHeldRows entries new → lone_sectors new ≡ lone_sectors held → IsKept root entries new layout
  kept_held rows lone = record {
    root_fits = kept.root_fits;
    size = kept.size;
    counted = kept.counted;
    entries_fit = kept.entries_fit;
    apart = kept.apart;
    room = subst (λ l. HasRoom (root.sectors - length l) root.list entries) (sym lone) kept.room;
    names = kept.names;
    rows = rows;
    claimed = subst (λ l. AreClaimed root.sectors layout (used root entries) l) (sym lone) kept.claimed;
  }

  -- Some of the sectors that only holders use are no longer in use. They can be given back, and then everything is
  -- kept.
  module _ (new : List HeldRow) (freed : List ℕ) (parts : (k : ℕ) → occurs k (lone_sectors new) + occurs k freed ≡ occurs k (lone_sectors held)) where
    abbrev all : List ℕ
    all = in_use root entries held

    abbrev after : List ℕ
    after = in_use root entries new

    counts : (k : ℕ) → occurs k all ≡ occurs k (after ++ freed)
    counts k = omega (
      arith,
      parts k,
      occurs-append k (used root entries) (lone_sectors held),
      occurs-append k (used root entries) (lone_sectors new),
      occurs-append k after freed,
    )

    pub fewer_held : AreClaimedOnce layout freed
    fewer_held = (
      after,
      claims_as layout all (after ++ freed) counts kept.claimed.claims,
      distinct_as all (after ++ freed) counts kept.claimed.once,
      subst (λ n. All (IsUsable n) freed) (sym kept.size)
          (all-part (IsUsable root.sectors) freed all (λ s found. occurs_contains s all (omega (arith, counts s, occurs-append s after freed, contains_occurs s freed found))) (all_usable kept)),
    )

    pub fewer_kept : (left : List Bool) → AreHeldRows entries new → length (lone_sectors new) ≤ length (lone_sectors held) → IsReleased layout left freed → IsKept root entries new left
    fewer_kept left rows fewer released = record {
      root_fits = kept.root_fits;
      size = released.size ∙ kept.size;
      counted = kept.counted;
      entries_fit = kept.entries_fit;
      apart = kept.apart;
      room = room_more (root.sectors - length (lone_sectors held)) (root.sectors - length (lone_sectors new)) root.list entries (omega (arith, fewer)) kept.room;
      names = kept.names;
      rows = rows;
      claimed = record {
        inside = all-part (IsUsable root.sectors) (lone_sectors new) all
            (λ s found. occurs_contains s all (omega (
              arith,
              counts s,
              occurs-append s after freed,
              occurs-append s (used root entries) (lone_sectors new),
              contains_occurs s
                  (lone_sectors new) found,
            ))) (all_usable kept);
        once = occurs_distinct after (λ k. omega (arith, counts k, occurs-append k after freed, distinct_occurs k all kept.claimed.once));
        claims = released.each after (claims_as layout all (after ++ freed) counts kept.claimed.claims) (distinct_as all (after ++ freed) counts kept.claimed.once);
      };
    }

module _ {D : Type 0} (facts : D → DiskFacts) (store : Opened D) {layout : List Bool} (kept : IsKept store.root store.entries store.held layout) where
  -- If a hold is refused, nothing changes.
  pub hold_refused : (position : ℕ) (e : StoreRefusal) → ((e ≡ Reopen) ↔ IsTrue store.failed) → (e ≡ Reopen) ⊎ (e ≡ OutOfMemory) → TakesHold facts store store position (Err e)
  hold_refused position e reopen which = record {
    ok = λ s at. tt;
    same = λ s at. at;
    hold = tt;
    holders = tt;
    others = λ sector library is. is;
    holds = λ sector placed by. by;
    lone = refl;
    flags = flags kept;
    kept = (refl, refl, refl, refl);
    reopen = (λ is. reopen.0 (err_is is), λ failed. ap (λ r. Err r) (reopen.1 failed));
    err = refl;
    refusals = which;
  }

  -- The byte string at a position is held.
  module _ (position : ℕ) (lt : position < length store.entries) (usable : IsFalse store.failed) {new : List HeldRow}
      (either : IsHeldOnce store.held new (get_or store.entries position no_entry)
      ⊎ IsHeldMore store.held new (get_or store.entries position no_entry).at) where
    abbrev placed : PlacedEntry
    placed = get_or store.entries position no_entry

    pub held_rows : AreHeldRows store.entries new
    held_rows = ⊎_elim
        (λ once. held_once kept.rows once (kept.entries_fit position no_entry lt) (position, lt, get_or_default store.entries position placed no_entry lt))
        (λ more. held_more kept.rows more)
        either

    pub held_lone : lone_sectors new ≡ lone_sectors store.held
    held_lone = ⊎_elim (λ once. lone_once once) (λ more. lone_more more) either

    held_now : IsHeldBy new placed.at placed
    held_now = ⊎_elim
        (λ once. by_first once)
        (λ more. subst (IsHeldBy new placed.at) (row_is kept position lt more.at) (by_more more (by_place more.at)))
        either

    pub hold_done : TakesHold facts store (with_held store new) position (Ok placed.at)
    hold_done = record {
      ok = λ s at. record {
        placed = placed;
        by = held_now;
        stands = λ m mixture. sym (ap (λ t. get_or t.libraries position no_library) (at.stands m mixture).is ∙ get_or-map (library_of m) store.entries position no_entry no_library lt);
      };
      same = λ s at. record { honest = at.honest; usable = at.usable; stands = at.stands };
      hold = λ d. subst (IsHeldBy new placed.at) (get_or_default store.entries position no_entry d lt) held_now;
      holders = λ sector. ⊎_elim (λ once. holders_once once sector) (λ more. holders_more more sector) either;
      others = λ sector library is. record {
        placed = is.placed;
        by = ⊎_elim (λ once. by_once once is.by) (λ more. by_more more is.by) either;
        stands = is.stands;
      };
      holds = λ sector placed by. ⊎_elim (λ once. by_once once by) (λ more. by_more more by) either;
      lone = held_lone;
      flags = flags (kept_held kept held_rows held_lone);
      kept = (refl, refl, refl, refl);
      reopen = (λ is. absurd (cc is), λ failed. absurd (false≢true (sym usable ∙ failed)));
      err = tt;
      refusals = tt;
    }

  -- A read that is refused without a call changes nothing.
  pub read_refused : (held : ℕ) (e : StoreRefusal) → ((e ≡ Reopen) ↔ IsTrue store.failed)
      → ((e ≡ Damaged) ↔ (IsFalse store.failed × (holders_of store.held held ≡ 0))) → (e ≡ Reopen) ⊎ (e ≡ Damaged) ⊎ (e ≡ OutOfMemory)
      → ReadsHeld facts store store held (Err e)
  read_refused held e reopen unknown which = record {
    any_moment = λ honest. (no_reads (facts store.disk)).leaves;
    ok = λ honest library is. tt;
    unchanged = λ honest. (no_reads (facts store.disk)).same;
    others = keeps_reads store.held (λ honest m mixture. mixture);
    same = λ s at. at;
    kept = (refl, refl, refl, refl);
    reopen = (λ is. reopen.0 (err_is is), λ failed. ap (λ r. Err r) (reopen.1 failed));
    unknown = (λ is. unknown.0 (err_is is), λ both. ap (λ r. Err r) (unknown.1 both));
    known = λ placed by is. omega (arith, (unknown.0 is).1, by_some kept.rows by);
    refusals = inr which;
    device = λ is. ⊎_elim (λ other. absurd (cc (is, other))) (λ rest. ⊎_elim (λ other. absurd (cc (is, other))) (λ other. absurd (cc (is, other))) rest) which;
    untouched = λ other. refl;
    size = λ placed by. tt;
    all_calls = λ placed by. tt;
    calls = λ placed by. record { some = no_calls (facts store.disk); time = omega arith };
    called = no_calls (facts store.disk);
  }

  -- The effect of reading a held byte string.
  module _ (after : D) (held : ℕ) {placed : PlacedEntry} (by : IsHeldBy store.held held placed) (usable : IsFalse store.failed)
      (holds : IsTrue (facts store.disk).honest → HoldsNow (facts store.disk))
      (calls : AreCallsAtMost (div_ceil placed.entry.file_length sector_bytes) (facts store.disk) (facts after))
      (reads : IsTrue (facts store.disk).honest → AreReads (facts store.disk) (facts after)) where
    abbrev now : Opened D
    now = record { disk = after; root = store.root; entries = store.entries; held = store.held; failed = store.failed }

    still_at : (s : State) → IsAt facts store s → IsAt facts now s
    still_at s at = record {
      honest = subst IsTrue (sym calls.some.honest) at.honest;
      usable = at.usable;
      stands = λ m mixture. at.stands m (still_mixture (reads at.honest) m mixture);
    }

    its_calls : (other : PlacedEntry) → IsHeldBy store.held held other → AreCallsAtMost (div_ceil other.entry.file_length sector_bytes) (facts store.disk) (facts after)
    its_calls other its = subst (λ (p : PlacedEntry). AreCallsAtMost (div_ceil p.entry.file_length sector_bytes) (facts store.disk) (facts after)) (by_one kept.rows.own by its) calls

    has_holders : holders_of store.held held ≡ 0 → ⊥
    has_holders none = omega (arith, none, by_some kept.rows by)

    pub read_done : (result : Result (Vec ℕ) StoreRefusal)
        → OnOk result (AreCallsExactly (div_ceil placed.entry.file_length sector_bytes) (facts store.disk) (facts after))
        → (IsTrue (facts store.disk).honest → IfOk result (λ bytes. bytes.items ≡ (library_of (facts store.disk).now placed).bytes))
        → IfOk result (λ bytes. length bytes.items ≡ placed.entry.file_length)
        → IfErr result (λ e. ((e ≡ Device) × ((facts store.disk).failures < (facts after).failures)) ⊎ ((e ≡ OutOfMemory) × (after ≡ store.disk)))
        → ReadsHeld facts store now held result
    read_done (Ok bytes) all_calls read size refused = record {
      any_moment = λ honest. (reads honest).leaves;
      ok = λ honest library is. read honest ∙ ap (λ (p : PlacedEntry). (library_of (facts store.disk).now p).bytes) (by_one kept.rows.own by is.by)
          ∙ ap (λ (l : Library). l.bytes) (is.stands (facts store.disk).now (holds honest));
      unchanged = λ honest. (reads honest).same;
      others = keeps_reads store.held (λ honest. still_mixture (reads honest));
      same = still_at;
      kept = (refl, refl, refl, refl);
      reopen = (λ is. absurd (cc is), λ failed. absurd (false≢true (sym usable ∙ failed)));
      unknown = (λ is. absurd (cc is), λ both. absurd (has_holders both.1));
      known = λ other its. tt;
      refusals = tt;
      device = tt;
      untouched = tt;
      size = λ other its. size ∙ ap (λ (p : PlacedEntry). p.entry.file_length) (by_one kept.rows.own by its);
      all_calls = λ other its. subst (λ (p : PlacedEntry). AreCallsExactly (div_ceil p.entry.file_length sector_bytes) (facts store.disk) (facts after)) (by_one kept.rows.own by its) all_calls;
      calls = its_calls;
      called = calls.some;
    }
    read_done (Err e) all_calls read size refused = record {
      any_moment = λ honest. (reads honest).leaves;
      ok = λ honest library is. tt;
      unchanged = λ honest. (reads honest).same;
      others = keeps_reads store.held (λ honest. still_mixture (reads honest));
      same = still_at;
      kept = (refl, refl, refl, refl);
      reopen = (λ is. absurd (other_than Reopen (λ same. cc same) (λ same. cc same) (err_is is)), λ failed. absurd (false≢true (sym usable ∙ failed)));
      unknown = (λ is. absurd (other_than Damaged (λ same. cc same) (λ same. cc same) (err_is is)), λ both. absurd (has_holders both.1));
      known = λ other its. other_than Damaged (λ same. cc same) (λ same. cc same);
      refusals = ⊎_elim (λ both. inl both.0) (λ both. inr (inr (inr both.0))) refused;
      device = λ is. ⊎_elim (λ both. both.1) (λ both. absurd (cc (is, both.0))) refused;
      untouched = λ other. ⊎_elim (λ both. absurd (other both.0))
          (λ both. ap (λ disk. record { disk = disk; root = store.root; entries = store.entries; held = store.held; failed = store.failed }) both.1)
          refused;
      size = λ other its. tt;
      all_calls = λ other its. tt;
      calls = its_calls;
      called = calls.some;
    }
      where
        other_than : (y : StoreRefusal) → (y ≡ Device → ⊥) → (y ≡ OutOfMemory → ⊥) → e ≡ y → ⊥
        other_than y device memory is = ⊎_elim (λ both. device (sym is ∙ both.0)) (λ both. memory (sym is ∙ both.0)) refused

  -- Releasing a byte string that nobody holds changes nothing.
  pub none_done : {at : ℕ} → IsUnheld store.held at → LetsHoldGo facts store store at
  none_done {at = at} absent = record {
    holders = λ sector. none_less sector;
    others = λ sector library some is. is;
    holds = λ sector placed. (λ by. (by, by_some kept.rows by), λ both. both.0);
    flags = flags kept;
    kept = (refl, refl, refl, refl);
    same = λ s is_at. is_at;
  }
    where
      none_less : (sector : ℕ) → holders_of store.held sector ≡ holders_of store.held sector - (if at == sector then 1 else 0)
      none_less sector = ⊎_elim
          (λ same. omega (arith, ap (holders_of store.held) (sym (eqb-true at sector same)) ∙ holders_unheld store.held at absent))
          (λ other. omega (arith, ap {B = ℕ} (λ b. if b then 1 else 0) other))
          (cases_Bool (at == sector))

  -- A holder releases a byte string: others still hold it, or this was its last holder.
  module _ {at : ℕ} {new : List HeldRow} where
    pub less_done : IsHeldLess store.held new at → LetsHoldGo facts store (with_held store new) at
    less_done less =
        let rows = held_less kept.rows less in record {
          holders = λ sector. omega (arith, holders_less less sector);
          others = λ sector library some is. record { placed = is.placed; by = by_less less is.by; stands = is.stands };
          holds = λ sector placed. (λ by. (by_less_back less by, by_some rows by), λ both. by_less less both.0);
          flags = flags (kept_held kept rows (lone_less less));
          kept = (refl, refl, refl, refl);
          same = λ s is_at. record { honest = is_at.honest; usable = is_at.usable; stands = is_at.stands };
        }

    pub gone_done : {hold : HeldRow} {left : List Bool} → IsLetGo store.held new at hold → IsKept store.root store.entries new left → LetsHoldGo facts store (with_held store new) at
    gone_done gone new_kept = record {
      holders = λ sector. omega (arith, holders_gone kept.rows gone sector);
      others = λ sector library some is. record { placed = is.placed; by = by_gone kept.rows.own gone some is.by; stands = is.stands };
      holds = λ sector placed. (λ by. (by_gone_back gone by, by_some new_kept.rows by), λ both. by_gone kept.rows.own gone both.1 both.0);
      flags = flags new_kept;
      kept = (refl, refl, refl, refl);
      same = λ s is_at. record { honest = is_at.honest; usable = is_at.usable; stands = is_at.stands };
    }

-- What is kept once the last holder of a byte string releases it, whether or not the state lists it.
module _ {root : Root} {entries : List PlacedEntry} {held new : List HeldRow} {layout : List Bool} {at : ℕ} {hold : HeldRow}
    (kept : IsKept root entries held layout) (gone : IsLetGo held new at hold) where
  pub gone_listed : hold.listed ≡ true → IsKept root entries new layout
  gone_listed listed = fewer_kept kept new [] (λ k. omega (arith, gone_listed_occurs gone listed k)) layout (held_gone kept.rows gone)
      (omega (arith, gone_listed_length gone listed)) (released_nothing layout)

  module _ (unlisted : hold.listed ≡ false) where
    pub gone_held : AreClaimedOnce layout (sectors_of hold.placed)
    gone_held = fewer_held kept new (sectors_of hold.placed) (gone_occurs gone unlisted)

    pub gone_freed : (left : List Bool) → IsReleased layout left (sectors_of hold.placed) → IsKept root entries new left
    gone_freed left released = fewer_kept kept new (sectors_of hold.placed) (gone_occurs gone unlisted) left (held_gone kept.rows gone) (omega (arith, gone_length gone unlisted)) released
