-- What keeps a snapshot valid: it stays one of the store that it was taken of, whatever the store does since.
use Rattle.std.proofs.Common.{◌≡◌, ℕ, ◌<◌, List, length, get_or, IsTrue, Result, sym, subst, arith}
use Rattle.sector_disk.specs.Disk.{DiskFacts}
use Rattle.states.specs.State.{Library}
use Rattle.store.specs.declared.placed_entry.PlacedEntry.{PlacedEntry}
use Rattle.store.specs.declared.refusal.StoreRefusal.{StoreRefusal}
use Rattle.store.specs.Holds.{IsHeldBy, holders_of, HeldIs, KeepsHeld}
use Rattle.store.specs.Opened.{Opened}
use Rattle.store.specs.Stands.{no_library}
use Rattle.snapshots.specs.Snapshot.{AreHeldAs, IsSnapshotOf, LetsAllGo, Taken, Takes}

-- the same disk is equally honest
same_honest : {D : Type 0} (facts : D → DiskFacts) {old new : D} → new ≡ old → IsTrue (facts old).honest → IsTrue (facts new).honest
same_honest facts same = subst (λ disk. IsTrue (facts disk).honest) (sym same)

module _ {D : Type 0} (facts : D → DiskFacts) {taken now new : Opened D} {snapshot : Taken} (is : IsSnapshotOf facts taken now snapshot) where
  -- A snapshot stays valid if its byte strings are still held. On an honest disk they must also keep their bytes.
  moved : (IsTrue (facts now.disk).honest → IsTrue (facts new.disk).honest)
      → ((i : ℕ) (placed : PlacedEntry) → i < length snapshot.handles → IsHeldBy now.held (get_or snapshot.handles i 0) placed → IsHeldBy new.held (get_or snapshot.handles i 0) placed)
      → (IsTrue (facts now.disk).honest → (i : ℕ) (library : Library) → i < length snapshot.handles
      → HeldIs facts now (get_or snapshot.handles i 0) library → HeldIs facts new (get_or snapshot.handles i 0) library)
      → IsSnapshotOf facts taken new snapshot
  moved honest holds bytes = record {
    entries = record {
      held = record {
        count = is.entries.held.count;
        each = λ i d lt. holds i (get_or taken.entries i d) (omega (arith, lt, is.entries.held.count)) (is.entries.held.each i d lt);
      };
      order = is.entries.order;
    };
    preloads = is.preloads;
    libraries = λ s at.
        let was = is.libraries s at in
        let held : AreHeldAs facts new snapshot.handles s.libraries = record {
          count = was.1.count;
          each = λ i lt. bytes was.0 i (get_or s.libraries i no_library) (omega (arith, lt, was.1.count)) (was.1.each i lt);
        } in
        (honest was.0, held);
  }

  -- Whatever keeps the held byte strings keeps a snapshot valid.
  pub snapshot_kept : KeepsHeld facts now new → (IsTrue (facts now.disk).honest → IsTrue (facts new.disk).honest) → IsSnapshotOf facts taken new snapshot
  snapshot_kept keeps honest = moved honest
      (λ i placed lt. (keeps.holds (get_or snapshot.handles i 0) placed).0)
      (λ was i library lt. keeps.bytes was (get_or snapshot.handles i 0) library)

  -- Taking another snapshot keeps a snapshot valid.
  pub snapshot_beside : {result : Result Taken StoreRefusal} → Takes facts now new result → IsSnapshotOf facts taken new snapshot
  snapshot_beside takes = moved (same_honest facts takes.kept.0)
      (λ i placed lt. takes.holds (get_or snapshot.handles i 0) placed)
      (λ was i library lt. takes.others (get_or snapshot.handles i 0) library)

  -- Releasing other byte strings keeps a snapshot valid, if somebody still holds each of its byte strings.
  pub snapshot_left : {handles : List ℕ} → LetsAllGo facts now new handles
      → ((i : ℕ) → i < length snapshot.handles → 0 < holders_of new.held (get_or snapshot.handles i 0)) → IsSnapshotOf facts taken new snapshot
  snapshot_left gone still = moved (same_honest facts gone.kept.0)
      (λ i placed lt by. (gone.holds (get_or snapshot.handles i 0) placed).1 (by, still i lt))
      (λ was i library lt. gone.others (get_or snapshot.handles i 0) library (still i lt))
