-- The contents that are found on a disk, derived from the entries that were read.
use Rattle.std.proofs.Common.{◌≡◌, ◌⊎◌, inl, inr, ⊎_elim, IsTrue, ℕ, ◌+◌, ◌-◌, ◌<◌, List, length, All, Result, Ok, Err, IfOk, IfErr, OnOk, sym, ap, subst, ◌∙◌, arith}
use Rattle.std.specs.Global.{Vec}
use Rattle.std.proofs.lemmas.List.{length-map}
use Rattle.std.proofs.lemmas.Result.{IfErr-weaker}
use Rattle.sector_disk.specs.Disk.{Sector, sector, DiskFacts, IsSynced, MayAddSync, AreCallsExactly, AreCallsAtMost}
use Rattle.sector_disk.proofs.Moments.{exactly_sum, exactly_at_most, at_most_sum}
use Rattle.passes.specs.Calls.{AreReads}
use Rattle.roots.specs.Limits.{most_catalogues}
use Rattle.roots.specs.declared.root.Root.{Root}
use Rattle.roots.specs.Choice.{IsCurrent}
use Rattle.roots.specs.Entry.{SpellsEntry}
use Rattle.states.specs.Limits.{most_libraries}
use Rattle.store.specs.declared.found_state.FoundState.{FoundState}
use Rattle.store.specs.declared.placed_entry.PlacedEntry.{PlacedEntry}
use Rattle.store.specs.declared.refusal.StoreRefusal.{StoreRefusal}
use Rattle.store.specs.declared.refusal.StoreRefusal.TheVariants.{Damaged, Device, OutOfMemory}
use Rattle.store.specs.Stands.{AreListed, IsListed, IsIntact, UsesApart, HasRoom, HaveOwnNames, catalogues_of, entry_sectors}
use Rattle.store.specs.inside.FoundState.{IsFound, IsFoundAfter, Finds}
use Rattle.store.specs.inside.Reading.{AreReadsBehindSync, IsRefusalOfList, RefusesEntries}
use Rattle.store.proofs.Beside.{room_more}
use Rattle.store.proofs.Broken.{not_spelt, not_apart}
use Rattle.store.proofs.Openings.{entries_refuse, then_reads_leave, reads_synced}

-- if the reads succeed, one call was made for each entry
pub entries_calls : (old mid new : DiskFacts) (n : ℕ) (r : Result (Vec PlacedEntry) StoreRefusal) (listed : List ℕ) → IfOk r (λ entries. entry_sectors entries.items ≡ listed)
    → AreCallsExactly n old mid → OnOk r (AreCallsExactly (length listed) mid new) → IfOk r (λ entries. AreCallsExactly (n + length entries.items) old new)
entries_calls old mid new n (Ok entries) listed is first rest = exactly_sum first rest (omega (arith, ap length is, length-map entries.items (λ (p : PlacedEntry). p.at)))
entries_calls old mid new n (Err e) listed is first rest = tt

pub entries_counted : (count : ℕ) (r : Result (Vec PlacedEntry) StoreRefusal) (listed : List ℕ) → IfOk r (λ entries. entry_sectors entries.items ≡ listed) → length listed ≡ count
    → IfOk r (λ entries. length entries.items ≡ count)
entries_counted count (Ok entries) listed is counted = sym (length-map entries.items (λ (p : PlacedEntry). p.at)) ∙ ap length is ∙ counted
entries_counted count (Err e) listed is counted = tt

module _ (m : List Sector) (root : Root) (listed : List ℕ) (are : AreListed m root.library_count root.list listed) where
  -- if the entries were read, they are those that the root lists
  pub entries_listed : (r : Result (Vec PlacedEntry) StoreRefusal) → IfOk r (λ entries. entry_sectors entries.items ≡ listed)
      → IfOk r (λ entries. All (λ placed. SpellsEntry (sector m placed.at) placed.entry) entries.items)
      → IfOk r (λ entries. IsListed m root entries.items)
  entries_listed (Ok entries) is each = record { sectors = subst (AreListed m root.library_count root.list) (sym is) are; each = each }
  entries_listed (Err e) is each = tt

  -- if the read was refused with Damaged, the sectors are intact with no list of entries
  pub entries_damaged : root.sectors ≡ length m → (r : Result (Vec PlacedEntry) StoreRefusal)
      → IfErr r (λ e. e ≡ Damaged → (entries : List PlacedEntry) → entry_sectors entries ≡ listed → All (λ placed. SpellsEntry (sector m placed.at) placed.entry) entries → ⊥)
      → IfErr r (λ e. e ≡ Damaged → (entries : List PlacedEntry) → IsIntact m root entries → ⊥)
  entries_damaged size (Ok entries) unspelt = tt
  entries_damaged size (Err e) unspelt = λ is. not_spelt m root size listed are (unspelt is)

-- A refusal on any disk, after these calls, is a result that `IsFoundAfter` allows.
pub none_found : {old new : DiskFacts} (calls : ℕ) (e : StoreRefusal) → AreCallsAtMost (calls + most_catalogues + most_libraries) old new
    → (e ≡ Device → old.failures < new.failures) → IsFoundAfter calls old new (Err e)
none_found calls e most device = record { calls = most; all_calls = tt; kept = tt; device = device }

-- The contents that were found on any disk, with this root and these entries.
module _ (root : Root) (entries : List PlacedEntry) where
  pub found_after : {old new : DiskFacts} (P : Type 0) (r : Result FoundState StoreRefusal)
      → IfOk r (λ found. IsFound found.root found.entries.items found.sectors.items found.index found.layout)
      → IfOk r (λ found. (found.root ≡ root) × (found.entries.items ≡ entries)) → IfErr r (λ e. (e ≡ OutOfMemory) ⊎ ((e ≡ Damaged) × P))
      → AreCallsAtMost (0 + most_catalogues + most_libraries) old new → AreCallsExactly (length (catalogues_of root) + length entries) old new
      → root.sectors ≡ old.sectors → IsFoundAfter 0 old new r
  found_after P (Ok found) kept same refused most all size = record {
    calls = most;
    all_calls = record { some = all.some; time = omega (arith, all.time, ap (λ r. length (catalogues_of r)) same.0, ap length same.1) };
    kept = (kept, ap (λ (r : Root). r.sectors) same.0 ∙ size);
    device = tt;
  }
  found_after P (Err e) kept same refused most all size =
      none_found 0 e most (λ is. absurd (⊎_elim (λ a. cc (a, is)) (λ both. cc (both.0, is)) refused))

  pub found_root : (r : Result FoundState StoreRefusal) → IfOk r (λ found. (found.root ≡ root) × (found.entries.items ≡ entries)) → IfOk r (λ found. found.root ≡ root)
  found_root (Ok found) same = same.0
  found_root (Err e) same = tt

  module _ (m : List Sector) (size : root.sectors ≡ length m) (listed : IsListed m root entries) where
    -- if the contents are found, the sectors are intact with the root and these entries
    pub found_intact : IsCurrent (sector m 0) (sector m 1) root → (r : Result FoundState StoreRefusal)
        → IfOk r (λ found. IsFound found.root found.entries.items found.sectors.items found.index found.layout)
        → IfOk r (λ found. (found.root ≡ root) × (found.entries.items ≡ entries)) → IfOk r (λ found. IsIntact m found.root found.entries.items)
    found_intact current (Ok found) kept same = record {
      current = subst (IsCurrent (sector m 0) (sector m 1)) (sym same.0) current;
      size = whole;
      listed = subst (λ l. IsListed m found.root l) (sym same.1) (subst (λ r. IsListed m r entries) (sym same.0) listed);
      apart = subst (λ n. UsesApart n found.root found.entries.items) whole kept.kept.apart;
      room = subst (λ n. HasRoom n found.root.list found.entries.items) whole (room_more (found.root.sectors - 0) found.root.sectors found.root.list found.entries.items (omega arith) kept.kept.room);
      names = kept.kept.names;
    }
      where
        whole : found.root.sectors ≡ length m
        whole = ap (λ (r : Root). r.sectors) same.0 ∙ size
    found_intact current (Err e) kept same = tt

    -- if the contents are refused with Damaged, the sectors are intact with no list of entries
    pub found_refused : (r : Result FoundState StoreRefusal)
        → IfErr r (λ e. (e ≡ OutOfMemory) ⊎ ((e ≡ Damaged) × (HaveOwnNames entries → UsesApart root.sectors root entries → HasRoom root.sectors root.list entries → ⊥)))
        → IfErr r (RefusesEntries m root)
    found_refused (Ok found) refused = tt
    found_refused (Err e) refused = ⊎_elim
        (λ memory. entries_refuse m root e (inr (inr memory)) (λ is. absurd (cc (is, memory))) size)
        (λ both. entries_refuse m root e (inr (inl both.0)) (λ is. not_apart m root size entries listed both.1) size)
        refused

-- only OutOfMemory and Damaged are possible refusals
pub found_refusals : (P : Type 0) (r : Result FoundState StoreRefusal) → IfErr r (λ e. (e ≡ OutOfMemory) ⊎ ((e ≡ Damaged) × P)) → IfErr r IsRefusalOfList
found_refusals P (Ok found) refused = tt
found_refusals P (Err e) refused = ⊎_elim (λ memory. inr (inr memory)) (λ both. inr (inl both.0)) refused

-- `IsFoundAfter 0` after the 3 calls that read the root implies `IsFoundAfter 3` for all calls together.
behind_root : {old mid new : DiskFacts} (r : Result FoundState StoreRefusal) → AreCallsExactly 3 old mid → IsFoundAfter 0 mid new r → IsFoundAfter 3 old new r
behind_root (Ok found) first rest = record {
  calls = at_most_sum {calls = 3} (exactly_at_most first (omega arith)) rest.calls (omega arith);
  all_calls = exactly_sum first rest.all_calls (omega arith);
  kept = (rest.kept.0, rest.kept.1 ∙ first.some.sectors);
  device = tt;
}
behind_root (Err e) first rest = record {
  calls = at_most_sum {calls = 3} (exactly_at_most first (omega arith)) rest.calls (omega arith);
  all_calls = tt;
  kept = tt;
  device = λ is. omega (arith, first.some.failures, rest.device is);
}

module _ (Refuses : List Sector → StoreRefusal → Type 0) {old : DiskFacts} where
  -- If no root is found, or the root is refused, the opening is refused.
  pub finds_none : {new : DiskFacts} (e : StoreRefusal) → AreCallsAtMost 3 old new → (e ≡ Device → old.failures < new.failures)
      → (IsTrue old.honest → AreReadsBehindSync old new) → (IsTrue old.honest → Refuses old.now e) → Finds Refuses old new (Err e)
  finds_none e most device reads refused = record {
    found = none_found 3 e (record { some = most.some; time = omega (arith, most.time) }) device;
    reads = reads;
    synced = λ honest. tt;
    intact = λ honest. tt;
    refused = refused;
  }

  -- If a root is found, the result is that of finding its entries.
  pub finds : {mid new : DiskFacts} (root : Root) (r : Result FoundState StoreRefusal) → AreCallsExactly 3 old mid → IsFoundAfter 0 mid new r
      → (IsTrue old.honest → AreReadsBehindSync old mid) → (IsTrue old.honest → IsSynced mid) → (IsTrue mid.honest → AreReads mid new)
      → (IsTrue old.honest → IsCurrent (sector old.now 0) (sector old.now 1) root)
      → (IsTrue mid.honest → IsCurrent (sector mid.now 0) (sector mid.now 1) root → IfOk r (λ found. IsIntact mid.now found.root found.entries.items))
      → (IsTrue mid.honest → IfErr r (RefusesEntries mid.now root)) → (IsTrue old.honest → (e : StoreRefusal) → RefusesEntries old.now root e → Refuses old.now e)
      → Finds Refuses old new r
  finds {mid = mid} {new = new} root r first found reads synced same current intact refused why = record {
    found = behind_root r first found;
    reads = λ honest. record {
      leaves = then_reads_leave (reads honest).leaves (same (still honest));
      now = (same (still honest)).same.now ∙ (reads honest).now;
      log = subst (λ l. MayAddSync old.log l) (sym (same (still honest)).same.log) (reads honest).log;
    };
    synced = λ honest. reads_synced r (synced honest) (same (still honest));
    intact = λ honest. subst (λ m. IfOk r (λ found. IsIntact m found.root found.entries.items)) (reads honest).now
        (intact (still honest) (subst (λ m. IsCurrent (sector m 0) (sector m 1) root) (sym (reads honest).now) (current honest)));
    refused = λ honest. IfErr-weaker r (RefusesEntries old.now root) (Refuses old.now) (why honest)
        (subst (λ m. IfErr r (RefusesEntries m root)) (reads honest).now (refused (still honest)));
  }
    where
      still : IsTrue old.honest → IsTrue mid.honest
      still honest = subst IsTrue (sym first.some.honest) honest
