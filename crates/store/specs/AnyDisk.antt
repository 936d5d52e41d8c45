-- The results of opening, making or upgrading a store on any disk, honest or not (own).
use Rattle.std.specs.Prelude.{◌≡◌, ◌<◌, [], Result, IsFalse, IfOk, IfErr}
use Rattle.sector_disk.specs.Disk.{DiskFacts, AreCalls, AreCallsExactly, AreCallsAtMost}
use Rattle.states.specs.Geometry.{IsGeometry}
use Rattle.store.specs.Opened.{Opened, disk_after}
use Rattle.store.specs.Opening.{IsRefusalOfOpen, IsRefusalOfFormat}
use Rattle.store.specs.declared.refusal.StoreRefusal.{StoreRefusal}
use Rattle.store.specs.declared.refusal.StoreRefusal.TheVariants.{BadGeometry, Device, OutOfMemory, OldFormat}

-- The call returned a usable store in which nothing is held, or it refused with a refusal that
-- `MayRefuse` allows, and returned the disk. A disk that is refused with BadGeometry is unchanged.
pub record EndsOnAnyDisk (MayRefuse : StoreRefusal → Type 0) {D : Type 0} (facts : D → DiskFacts) (disk : D) (ends : Result (Opened D) (StoreRefusal × D)) : Type 0 where
  pub geometry : IfOk ends (λ _. IsGeometry (facts disk).sectors)
  pub usable : IfOk ends (λ opened. IsFalse opened.failed)
  pub unheld : IfOk ends (λ opened. opened.held ≡ [])
  pub refusals : IfErr ends (λ e. MayRefuse e.0)
  pub device : IfErr ends (λ e. e.0 ≡ Device → (facts disk).failures < (facts e.1).failures)
  pub untouched : IfErr ends (λ e. e.0 ≡ BadGeometry → e.1 ≡ disk)
  pub calls : AreCalls (facts disk) (facts (disk_after ends))

-- An opening ended in a way that `EndsOnAnyDisk` allows. If it refused with OldFormat, it made
-- three calls: a sync, and the reads of the two root sectors.
pub record OpensOnAnyDisk {D : Type 0} (facts : D → DiskFacts) (disk : D) (opening : Result (Opened D) (StoreRefusal × D)) : Type 0 where
  pub ends : EndsOnAnyDisk (IsRefusalOfOpen (facts disk).sectors) facts disk opening
  pub old_calls : IfErr opening (λ e. e.0 ≡ OldFormat → AreCallsExactly 3 (facts disk) (facts e.1))

-- Making a store ended in a way that `EndsOnAnyDisk` allows. At most five calls were made. If
-- memory was refused, no call was made.
pub record MakesOnAnyDisk {D : Type 0} (facts : D → DiskFacts) (disk : D) (making : Result (Opened D) (StoreRefusal × D)) : Type 0 where
  pub ends : EndsOnAnyDisk (IsRefusalOfFormat (facts disk).sectors) facts disk making
  pub early : IfErr making (λ e. e.0 ≡ OutOfMemory → e.1 ≡ disk)
  pub most_calls : AreCallsAtMost 5 (facts disk) (facts (disk_after making))
  pub all_calls : IfOk making (λ made. AreCallsExactly 5 (facts disk) (facts made.disk))
