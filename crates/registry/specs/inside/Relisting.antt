-- The ends of relisting: the files of a store of version 1 are admitted, and then the store gets
-- catalogues.
use Rattle.std.specs.Prelude.{◌≡◌, ◌≢◌, ◌+◌, ◌<◌, ◌⊎◌, [], Result, All, IsTrue, IsFalse, IfOk, IfErr, length, sum_by}
use Rattle.sector_disk.specs.Disk.{DiskFacts, Mixture, LeavesOnly, LogGrows, AreCalls, AreCallsExactly}
use Rattle.states.specs.Cost.{catalogues_for}
use Rattle.states.specs.State.{State}
use Rattle.store.specs.IsRead.{file_sectors}
use Rattle.store.specs.Opened.{Opened, IsOldAt, disk_after}
use Rattle.store.specs.Step.{refusal_of_upgrade, answer_of, IsUpgradeAnswer}
use Rattle.store.specs.Taken.{IsRelisted}
use Rattle.store.specs.Upgraded.{upgraded}
use Rattle.store.specs.declared.refusal.StoreRefusal.{StoreRefusal}
use Rattle.store.specs.declared.refusal.StoreRefusal.TheVariants.{Device, Damaged, OutOfMemory, GenerationEnd, Full}
use Rattle.requests.specs.Library.{IsLibrary}
use Rattle.registry.specs.Opened.{IsAt}
use Rattle.registry.specs.Stands.{Stands, StandsOld}

-- the refusals that admitting the files of a usable store may return
abbrev pub IsAdmissionRefusal : StoreRefusal → Type 0
IsAdmissionRefusal e = (e ≡ Device) ⊎ (e ≡ Damaged) ⊎ (e ≡ OutOfMemory)

-- the store has catalogues now, or it was refused and its disk was returned
pub record EndsRelisting {D : Type 0} (facts : D → DiskFacts) (store : Opened D) (relisting : Result (Opened D) (StoreRefusal × D)) : Type 0 where
  pub any_moment : (s : State) → IsOldAt facts store s → All IsLibrary s.libraries
      → LeavesOnly (facts store.disk) (facts (disk_after relisting)) (λ m. StandsOld m s ⊎ Stands m (upgraded s))
  pub left_alone : (s : State) → IsOldAt facts store s → (All IsLibrary s.libraries → ⊥)
      → LeavesOnly (facts store.disk) (facts (disk_after relisting)) (Mixture (facts store.disk))
  pub unwritten : IsTrue (facts store.disk).honest → IfErr relisting (λ e. e.0 ≢ Device → LeavesOnly (facts store.disk) (facts e.1) (Mixture (facts store.disk)))
  pub now : (s : State) → IsOldAt facts store s → (All IsLibrary s.libraries → ⊥) → (facts (disk_after relisting)).now ≡ (facts store.disk).now
  pub now_refused : IsTrue (facts store.disk).honest → IfErr relisting (λ e. e.0 ≢ Device → (facts e.1).now ≡ (facts store.disk).now)
  pub ok : (s : State) → IsOldAt facts store s → IfOk relisting (λ registry. All IsLibrary s.libraries × IsAt facts registry (upgraded s))
  pub answer : (s : State) → IsOldAt facts store s → All IsLibrary s.libraries → IsUpgradeAnswer (refusal_of_upgrade store.root.sectors s) (answer_of relisting)
  pub no_library : (s : State) → IsOldAt facts store s → (All IsLibrary s.libraries → ⊥) → IfErr relisting (λ e. IsAdmissionRefusal e.0)
  -- the clauses from here on hold on any disk, honest or not
  pub usable : IfOk relisting (λ registry. IsFalse registry.failed)
  pub unheld : IfOk relisting (λ registry. registry.held ≡ [])
  pub placed : IfOk relisting (IsRelisted store)
  pub refusals : IfErr relisting (λ e. (e.0 ≡ Device) ⊎ (e.0 ≡ Damaged) ⊎ (e.0 ≡ OutOfMemory) ⊎ (e.0 ≡ GenerationEnd) ⊎ (e.0 ≡ Full))
  pub device : IfErr relisting (λ e. e.0 ≡ Device → (facts store.disk).failures < (facts e.1).failures)
  pub calls : AreCalls (facts store.disk) (facts (disk_after relisting))
  pub all_calls : IfOk relisting (λ registry.
      AreCallsExactly (sum_by file_sectors store.entries + (catalogues_for (length store.entries) + 3)) (facts store.disk) (facts registry.disk))
  pub log : IsTrue (facts store.disk).honest → IfOk relisting (λ registry.
      LogGrows (catalogues_for (length store.entries) + 3) (facts store.disk).log (facts registry.disk).log)
