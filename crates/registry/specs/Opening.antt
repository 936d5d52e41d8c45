-- The possible ends of opening, making or upgrading the registry on a disk (own).
use Rattle.std.specs.Prelude.{◌≡◌, ◌≢◌, ◌+◌, ◌⊎◌, ℕ, Result, IsTrue, IfOk, IfErr, MatchResult, length, sum_by}
use Rattle.sector_disk.specs.Disk.{DiskFacts, Mixture, LeavesOnly, GrowsBehindSync, AreCallsExactly}
use Rattle.states.specs.Cost.{catalogues_for}
use Rattle.states.specs.State.{State}
use Rattle.store.specs.IsRead.{file_sectors}
use Rattle.store.specs.AnyDisk.{EndsOnAnyDisk, OpensOnAnyDisk, MakesOnAnyDisk}
use Rattle.store.specs.Makes.{Makes}
use Rattle.store.specs.Opened.{Opened, disk_after, calls_to_open}
use Rattle.store.specs.Opening.{RefusesLook, IsRefusalOfUpgrade}
use Rattle.store.specs.Opens.{Opens}
use Rattle.store.specs.Step.{refusal_of_upgrade, answer_of, IsUpgradeAnswer}
use Rattle.store.specs.Upgraded.{upgraded, IsRelistedFrom}
use Rattle.store.specs.declared.refusal.StoreRefusal.{StoreRefusal}
use Rattle.store.specs.declared.refusal.StoreRefusal.TheVariants.{Device, OutOfMemory}
use Rattle.registry.specs.Opened.{IsAt}
use Rattle.registry.specs.Stands.{Stands, StandsOld, StandsEither}
use Rattle.registry.specs.Upgraded.{IsNotOld, IsUpgradeOf}

-- the number of calls that open a registry: those that open the store, and one for each sector of
-- each file
abbrev pub opening_calls : {D : Type 0} → Opened D → ℕ
opening_calls registry = calls_to_open registry + sum_by file_sectors registry.entries

-- the registry on the disk was opened, or the disk was refused and returned
pub record EndsOpening {D : Type 0} (facts : D → DiskFacts) (disk : D) (opening : Result (Opened D) (StoreRefusal × D)) : Type 0 where
  pub opened : Opens Stands facts (IsAt facts) disk opening
  pub on_any_disk : OpensOnAnyDisk facts disk opening
  pub all_calls : IfOk opening (λ registry. AreCallsExactly (opening_calls registry) (facts disk) (facts registry.disk))

-- an empty registry was made on the disk, or the disk was refused and returned
pub record EndsMaking {D : Type 0} (facts : D → DiskFacts) (disk : D) (making : Result (Opened D) (StoreRefusal × D)) : Type 0 where
  pub made : Makes Stands facts (IsAt facts) disk making
  pub on_any_disk : MakesOnAnyDisk facts disk making

-- the registry on the disk is now of version 2, or the disk was refused and returned
pub record EndsUpgrading {D : Type 0} (facts : D → DiskFacts) (disk : D) (upgrading : Result (Opened D) (StoreRefusal × D)) : Type 0 where
  -- if the disk is of version 1, a stop at any moment leaves the old state, the upgraded state, or
  -- contents that a stop could leave before the upgrade
  pub any_moment : IsTrue (facts disk).honest → (s : State) → StandsOld (facts disk).now s
      → LeavesOnly (facts disk) (facts (disk_after upgrading)) (λ m. Mixture (facts disk) m ⊎ StandsOld m s ⊎ Stands m (upgraded s))
  -- a disk that isn't of version 1 is unchanged
  pub left_alone : IsTrue (facts disk).honest → IsNotOld (facts disk).now → LeavesOnly (facts disk) (facts (disk_after upgrading)) (Mixture (facts disk))
  pub now : IsTrue (facts disk).honest → IsNotOld (facts disk).now → (facts (disk_after upgrading)).now ≡ (facts disk).now
  -- if the disk is refused, but not with S1, it is unchanged too
  pub unwritten : IsTrue (facts disk).honest → IfErr upgrading (λ e. e.0 ≢ Device → LeavesOnly (facts disk) (facts e.1) (Mixture (facts disk)))
  pub now_refused : IsTrue (facts disk).honest → IfErr upgrading (λ e. e.0 ≢ Device → (facts e.1).now ≡ (facts disk).now)
  -- the registry is at the state that the disk held or, if the disk was of version 1, at the
  -- upgraded state
  pub ok : IsTrue (facts disk).honest → IfOk upgrading (λ registry. (s : State) × IsUpgradeOf facts registry (facts disk).now s)
  pub stands : IsTrue (facts disk).honest → (s : State) → Stands (facts disk).now s
      → MatchResult upgrading (λ registry. IsAt facts registry s) (λ e. (e.0 ≡ Device) ⊎ (e.0 ≡ OutOfMemory))
  pub stands_old : IsTrue (facts disk).honest → (s : State) → StandsOld (facts disk).now s → IfOk upgrading (λ registry. IsAt facts registry (upgraded s))
  pub placed_old : IsTrue (facts disk).honest → (s : State) → StandsOld (facts disk).now s → IfOk upgrading (IsRelistedFrom (facts disk).now s)
  pub answer : IsTrue (facts disk).honest → (s : State) → StandsOld (facts disk).now s
      → IsUpgradeAnswer (refusal_of_upgrade (facts disk).sectors s) (answer_of upgrading)
  pub refused : IsTrue (facts disk).honest → IsNotOld (facts disk).now → IfErr upgrading (λ e. RefusesLook StandsEither (facts disk).now e.0)
  -- on a disk of version 2, an upgrade makes exactly the calls of an opening; on a disk of version
  -- 1, it also makes the calls for the catalogues and the root, and two syncs
  pub calls_current : IsTrue (facts disk).honest → (s : State) → Stands (facts disk).now s → IfOk upgrading (λ registry.
      AreCallsExactly (opening_calls registry) (facts disk) (facts registry.disk))
  pub calls_old : IsTrue (facts disk).honest → (s : State) → StandsOld (facts disk).now s → IfOk upgrading (λ registry.
      AreCallsExactly (3 + length registry.entries + sum_by file_sectors registry.entries + (catalogues_for (length registry.entries) + 3))
      (facts disk) (facts registry.disk))
  pub log_old : IsTrue (facts disk).honest → (s : State) → StandsOld (facts disk).now s → IfOk upgrading (λ registry.
      GrowsBehindSync (catalogues_for (length registry.entries) + 3) (facts disk).log (facts registry.disk).log)
  pub on_any_disk : EndsOnAnyDisk (IsRefusalOfUpgrade (facts disk).sectors) facts disk upgrading
