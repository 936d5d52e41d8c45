-- Releasing handles one by one.
use Rattle.std.proofs.Common.{◌≡◌, ℕ, ◌+◌, ◌<◌, ◌==◌, if◌then◌else◌, List, [], ◌∷◌, refl, ◌∙◌, arith}
use Rattle.std.proofs.lemmas.List.Sums.{sum_by-cons}
use Rattle.sector_disk.specs.Disk.{DiskFacts}
use Rattle.store.specs.Holds.{AreHolds, LetsHoldGo, holders_of}
use Rattle.store.specs.Opened.{Opened}
use Rattle.snapshots.specs.Snapshot.{LetsAllGo, times}

-- with one more handle, each sector is among the handles as often as before, and the handle's own
-- sector once more
pub times-cons : (sector handle : ℕ) (handles : List ℕ) → times sector (handle ∷ handles) ≡ (if handle == sector then 1 else 0) + times sector handles
times-cons sector handle handles = sum_by-cons (λ h. if h == sector then 1 else 0) handle handles

module _ {D : Type 0} (facts : D → DiskFacts) {old : Opened D} where
  -- if no handle is released, nothing changes
  pub none_gone : AreHolds old → LetsAllGo facts old old []
  none_gone sound = record {
    holders = λ sector. omega arith;
    others = λ sector library still is. is;
    holds = λ sector placed. (λ by. (by, sound.holders sector placed by), λ both. both.0);
    flags = sound.flags;
    kept = (refl, refl, refl, refl);
    same = λ s at. at;
  }

  -- releasing one more handle releases it together with those before
  pub one_gone : {between new : Opened D} (handle : ℕ) (gone : List ℕ) → LetsAllGo facts old between gone → LetsHoldGo facts between new handle → LetsAllGo facts old new (handle ∷ gone)
  one_gone {between = between} {new = new} handle gone before now = record {
    holders = λ sector. omega (arith, now.holders sector, before.holders sector, times-cons sector handle gone);
    others = λ sector library still is. now.others sector library still (before.others sector library (more sector still) is);
    holds = λ sector placed. (
      λ by.
          let both = (now.holds sector placed).0 by in
          (((before.holds sector placed).0 both.0).0, both.1),
      λ both. (now.holds sector placed).1 ((before.holds sector placed).1 (both.0, more sector both.1), both.1),
    );
    flags = now.flags;
    kept = (now.kept.0 ∙ before.kept.0, now.kept.1 ∙ before.kept.1, now.kept.2 ∙ before.kept.2, now.kept.3 ∙ before.kept.3);
    same = λ s at. now.same s (before.same s at);
  }
    where
      more : (sector : ℕ) → 0 < holders_of new.held sector → 0 < holders_of between.held sector
      more sector still = omega (arith, still, now.holders sector)
