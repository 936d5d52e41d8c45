-- Opening an honest disk of version 2, for any definition of the state that a disk holds (own).
use Rattle.std.specs.Prelude.{◌≡◌, ◌+◌, ◌⊎◌, List, Result, IsTrue, IfOk, IfErr, MatchResult}
use Rattle.sector_disk.specs.Disk.{Sector, DiskFacts, Mixture, LeavesOnly, MayAddSync, AreCallsExactly, AreCallsAtMost}
use Rattle.roots.specs.Limits.{most_catalogues}
use Rattle.states.specs.Limits.{most_libraries}
use Rattle.states.specs.State.{State}
use Rattle.store.specs.Opened.{Opened, IsAt, disk_after, calls_to_open}
use Rattle.store.specs.AnyDisk.{OpensOnAnyDisk}
use Rattle.store.specs.Opening.{RefusesOpen}
use Rattle.store.specs.Stands.{Stands}
use Rattle.store.specs.declared.refusal.StoreRefusal.{StoreRefusal}
use Rattle.store.specs.declared.refusal.StoreRefusal.TheVariants.{Device, OutOfMemory}

-- The disk was opened, or refused and returned. `StandsFor` defines which state sectors hold, and
-- `AtFor` defines when a store is at a state.
pub record Opens (StandsFor : List Sector → State → Type 0) {D : Type 0} (facts : D → DiskFacts) (AtFor : Opened D → State → Type 0)
    (disk : D) (opening : Result (Opened D) (StoreRefusal × D)) : Type 0 where
  -- a stop at any moment leaves only contents that a stop could leave before the call
  pub any_moment : IsTrue (facts disk).honest → LeavesOnly (facts disk) (facts (disk_after opening)) (Mixture (facts disk))
  -- reads return the same contents as before, even if a call fails
  pub now : IsTrue (facts disk).honest → (facts (disk_after opening)).now ≡ (facts disk).now
  -- the log gets at most one sync, and nothing else
  pub log : IsTrue (facts disk).honest → MayAddSync (facts disk).log (facts (disk_after opening)).log
  -- the sectors that reads return hold exactly one state; the store is at this state, and every
  -- mixture holds it too
  pub ok : IsTrue (facts disk).honest → IfOk opening (λ opened.
      (s : State) × StandsFor (facts disk).now s × AtFor opened s × ((other : State) → StandsFor (facts disk).now other → other ≡ s))
  -- if these sectors hold a state, the disk is refused only if a call failed or memory was refused
  pub stands : IsTrue (facts disk).honest → (s : State) → StandsFor (facts disk).now s
      → MatchResult opening (λ opened. AtFor opened s) (λ e. (e.0 ≡ Device) ⊎ (e.0 ≡ OutOfMemory))
  pub refused : IsTrue (facts disk).honest → IfErr opening (λ e. RefusesOpen StandsFor (facts disk).now e.0)

-- The disk was opened by its entries, or refused and returned. No byte string was read, so the
-- result doesn't depend on the bytes of the byte strings.
pub record OpensByEntries {D : Type 0} (facts : D → DiskFacts) (disk : D) (opening : Result (Opened D) (StoreRefusal × D)) : Type 0 where
  pub opened : Opens Stands facts (IsAt facts) disk opening
  pub on_any_disk : OpensOnAnyDisk facts disk opening
  pub most_calls : AreCallsAtMost (3 + most_catalogues + most_libraries) (facts disk) (facts (disk_after opening))
  pub all_calls : IfOk opening (λ store. AreCallsExactly (calls_to_open store) (facts disk) (facts store.disk))
