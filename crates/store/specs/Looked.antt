-- The result of `look` on a disk.
use Rattle.std.specs.Prelude.{◌≡◌, ◌+◌, ◌<◌, ◌⊎◌, [], IsTrue, IsFalse, IfOk, IfErr, MatchResult, Result, Ok, Err}
use Rattle.sector_disk.specs.Disk.{DiskFacts, Mixture, LeavesOnly, MayAddSync, AreCallsExactly, AreCallsAtMost}
use Rattle.roots.specs.Limits.{most_catalogues}
use Rattle.states.specs.Geometry.{IsGeometry}
use Rattle.states.specs.Limits.{most_libraries}
use Rattle.store.specs.declared.refusal.StoreRefusal.{StoreRefusal}
use Rattle.store.specs.declared.refusal.StoreRefusal.TheVariants.{BadGeometry, Device, OutOfMemory}
use Rattle.store.specs.declared.look.Look.{Look}
use Rattle.store.specs.declared.look.Look.TheVariants.{Current, Old}
use Rattle.store.specs.Opened.{Opened, IsAt, IsOldAt, calls_to_open}
use Rattle.store.specs.Opening.{RefusesLook, IsRefusalOfLook}
use Rattle.store.specs.Stands.{Stands, StandsOld, StandsEither}
use Rattle.states.specs.State.{State}

-- the store that was found, of version 1 or 2
abbrev pub seen : {D : Type 0} → Look D → Opened D
seen (Current store) = store
seen (Old store) = store

-- the disk of the store that was found, or the disk that the refusal returned
abbrev pub looked_after : {D : Type 0} → Result (Look D) (StoreRefusal × D) → D
looked_after (Ok look) = (seen look).disk
looked_after (Err refused) = refused.1

-- a store of version 2 was found, and it is at this state
abbrev pub IsSeenAt : {D : Type 0} → (D → DiskFacts) → Look D → State → Type 0
IsSeenAt facts (Current store) s = IsAt facts store s
IsSeenAt facts (Old store) s = ⊥

-- a store of version 1 was found, and it is at this state
abbrev pub IsSeenOldAt : {D : Type 0} → (D → DiskFacts) → Look D → State → Type 0
IsSeenOldAt facts (Current store) s = ⊥
IsSeenOldAt facts (Old store) s = IsOldAt facts store s

-- The store on the disk was found, or the disk was refused and returned. Nothing was written.
pub record Looks {D : Type 0} (facts : D → DiskFacts) (disk : D) (looking : Result (Look D) (StoreRefusal × D)) : Type 0 where
  -- a stop at any moment leaves only contents that a stop could leave before the call
  pub any_moment : IsTrue (facts disk).honest → LeavesOnly (facts disk) (facts (looked_after looking)) (Mixture (facts disk))
  -- reads return the same contents as before, even if a call fails
  pub now : IsTrue (facts disk).honest → (facts (looked_after looking)).now ≡ (facts disk).now
  pub log : IsTrue (facts disk).honest → MayAddSync (facts disk).log (facts (looked_after looking)).log
  -- the store has the version of its root, and is at the state that the disk's sectors hold
  pub stands : IsTrue (facts disk).honest → (s : State) → Stands (facts disk).now s
      → MatchResult looking (λ look. IsSeenAt facts look s) (λ e. (e.0 ≡ Device) ⊎ (e.0 ≡ OutOfMemory))
  pub stands_old : IsTrue (facts disk).honest → (s : State) → StandsOld (facts disk).now s
      → MatchResult looking (λ look. IsSeenOldAt facts look s) (λ e. (e.0 ≡ Device) ⊎ (e.0 ≡ OutOfMemory))
  pub ok : IsTrue (facts disk).honest → IfOk looking (λ look.
      (s : State) × ((Stands (facts disk).now s × IsSeenAt facts look s) ⊎ (StandsOld (facts disk).now s × IsSeenOldAt facts look s)))
  pub refused : IsTrue (facts disk).honest → IfErr looking (λ e. RefusesLook StandsEither (facts disk).now e.0)
  -- the clauses from here on hold on any disk, honest or not
  pub unheld : IfOk looking (λ look. (seen look).held ≡ [])
  pub usable : IfOk looking (λ look. IsFalse (seen look).failed)
  pub geometry : IfOk looking (λ _. IsGeometry (facts disk).sectors)
  pub refusals : IfErr looking (λ e. IsRefusalOfLook (facts disk).sectors e.0)
  pub device : IfErr looking (λ e. e.0 ≡ Device → (facts disk).failures < (facts e.1).failures)
  pub untouched : IfErr looking (λ e. e.0 ≡ BadGeometry → e.1 ≡ disk)
  pub calls : AreCallsAtMost (3 + most_catalogues + most_libraries) (facts disk) (facts (looked_after looking))
  pub all_calls : IfOk looking (λ look. AreCallsExactly (calls_to_open (seen look)) (facts disk) (facts (seen look).disk))
