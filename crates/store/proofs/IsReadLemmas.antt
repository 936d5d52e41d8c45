-- Lemmas for callers: the contract of several reads of a store, made one after the other.
use Rattle.std.proofs.Common.{ℕ, IsTrue, Result, refl, sym, subst, ◌∙◌}
use Rattle.std.specs.Global.{Vec}
use Rattle.sector_disk.specs.Disk.{DiskFacts, Mixture, IsUnchanged}
use Rattle.sector_disk.proofs.Moments.{goes_on, weaken, left_now, at_rest, no_calls, more_calls}
use Rattle.roots.specs.declared.version.Version.{Version}
use Rattle.store.specs.IsRead.{IsReadBy}
use Rattle.store.specs.Opened.{Opened}
use Rattle.store.specs.Reads.{ReadsBlob}
use Rattle.store.specs.declared.refusal.StoreRefusal.{StoreRefusal}
use Rattle.store.proofs.UsedAlone.{no_entry}

module _ {version : Version} {D : Type 0} {facts : D → DiskFacts} where
  pub read_none : (start : Opened D) → IsReadBy version facts start start
  read_none start = record {
    leaves = λ honest. at_rest (facts start.disk) (Mixture (facts start.disk)) (λ m mixture. mixture);
    same = λ s at. at;
    unchanged = λ honest. record { now = refl; log = refl; stop = λ k c. (λ may. may, λ may. may) };
    root = refl;
    entries = refl;
    held = refl;
    failed = refl;
    calls = no_calls (facts start.disk);
  }

  -- if one byte string was read, the store was only read
  pub read_one : {old new : Opened D} {position : ℕ} {result : Result (Vec ℕ) StoreRefusal} → ReadsBlob version facts old new position result → IsReadBy version facts old new
  read_one reads = record {
    leaves = reads.any_moment;
    same = reads.same;
    unchanged = reads.unchanged;
    root = reads.kept.0;
    entries = reads.kept.1;
    held = reads.table;
    failed = reads.kept.2;
    calls = (reads.calls no_entry).some;
  }

  -- reads of a store, followed by other reads, only read the store
  pub read_more : {start mid new : Opened D} → IsReadBy version facts start mid → IsReadBy version facts mid new → IsReadBy version facts start new
  read_more {start = start} {mid = mid} first second = record {
    leaves = λ is.
        let so_far = first.leaves is in
        goes_on (Mixture (facts start.disk)) so_far
        (weaken (Mixture (facts mid.disk)) (Mixture (facts start.disk)) (left_now (Mixture (facts start.disk)) so_far) (second.leaves (subst IsTrue (sym first.calls.honest) is)));
    same = λ s at. second.same s (first.same s at);
    unchanged = λ is. still (first.unchanged is) (second.unchanged (subst IsTrue (sym first.calls.honest) is));
    root = second.root ∙ first.root;
    entries = second.entries ∙ first.entries;
    held = second.held ∙ first.held;
    failed = second.failed ∙ first.failed;
    calls = more_calls first.calls second.calls;
  }
    where
      still : {before between after : DiskFacts} → IsUnchanged before between → IsUnchanged between after → IsUnchanged before after
      still one two = record {
        now = two.now ∙ one.now;
        log = two.log ∙ one.log;
        stop = λ k c. (λ may. (one.stop k c).0 ((two.stop k c).0 may), λ may. (two.stop k c).1 ((one.stop k c).1 may));
      }
