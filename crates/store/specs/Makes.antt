-- Making an empty store of version 2 on an honest disk, for any definition of the state that a disk holds (own).
use Rattle.std.specs.Prelude.{◌≡◌, ◌≢◌, ◌⊎◌, List, Result, IsTrue, IfOk, IfErr, OnOk}
use Rattle.sector_disk.specs.Disk.{Sector, DiskFacts, Mixture, LeavesOnly, GrowsBehindSync}
use Rattle.states.specs.State.{State, empty_state}
use Rattle.store.specs.Opened.{Opened, disk_after}
use Rattle.store.specs.Opening.{HasRootMagic, RefusesFormat}
use Rattle.store.specs.declared.refusal.StoreRefusal.{StoreRefusal}
use Rattle.store.specs.declared.refusal.StoreRefusal.TheVariants.{Device, AlreadyFormatted}

-- The empty state was made on the disk, or the disk was refused and returned. `StandsFor` defines
-- which state sectors hold, and `AtFor` defines when a store is at a state.
pub record Makes (StandsFor : List Sector → State → Type 0) {D : Type 0} (facts : D → DiskFacts) (AtFor : Opened D → State → Type 0)
    (disk : D) (making : Result (Opened D) (StoreRefusal × D)) : Type 0 where
  -- a stop at any moment leaves only contents that a stop could leave before the call, or the empty
  -- state
  pub any_moment : IsTrue (facts disk).honest → LeavesOnly (facts disk) (facts (disk_after making)) (λ m. Mixture (facts disk) m ⊎ StandsFor m empty_state)
  pub ok : IsTrue (facts disk).honest → IfOk making (λ made. AtFor made empty_state)
  pub unformatted : IsTrue (facts disk).honest → OnOk making (HasRootMagic (facts disk).now → ⊥)
  pub refused : IsTrue (facts disk).honest → IfErr making (λ e. RefusesFormat (facts disk).now e.0)
  -- if the disk is refused with AlreadyFormatted, a stop leaves only contents that a stop could
  -- leave before the call
  pub left_alone : IsTrue (facts disk).honest → IfErr making (λ e. e.0 ≡ AlreadyFormatted → LeavesOnly (facts disk) (facts e.1) (Mixture (facts disk)))
  pub now : IsTrue (facts disk).honest → IfErr making (λ e. e.0 ≢ Device → (facts e.1).now ≡ (facts disk).now)
  pub log : IsTrue (facts disk).honest → IfOk making (λ made. GrowsBehindSync 2 (facts disk).log (facts made.disk).log)
