-- The effect of committing a draft.
use Rattle.std.specs.Prelude.{◌≡◌, ◌≢◌, ◌⊎◌, length, Result, OnErr, OnOk}
use Rattle.sector_disk.specs.Disk.{DiskFacts, LeavesOnly}
use Rattle.roots.specs.Root.{listed_preloads}
use Rattle.states.specs.State.{State}
use Rattle.store.specs.declared.draft.Touched.TheVariants as touched
use Rattle.store.specs.declared.refusal.StoreRefusal.{StoreRefusal}
use Rattle.store.specs.declared.refusal.StoreRefusal.TheVariants.{Device, Reopen}
use Rattle.store.specs.Changed.{Changed}
use Rattle.store.specs.Draft.{Drafted, IsDraftedAt, commit_calls, committed, layout_drafted}
use Rattle.store.specs.Holds.{KeepsHeld}
use Rattle.store.specs.Opened.{IsAt, Opened}
use Rattle.store.specs.Stands.{Stands, catalogues_of}
use Rattle.store.specs.Taken.{AreTaken}

-- The store of the draft `u` now has the draft's list and preloads. If a call failed, the store has the
-- same list and preloads as before.
pub record Commits {D : Type 0} (facts : D → DiskFacts) (u : Drafted D) (new : Opened D) (result : Result (Unit {0}) StoreRefusal) : Type 0 where
  pub any_moment : (s d : State) → IsDraftedAt facts u s d
      → LeavesOnly (facts u.store.disk) (facts new.disk) (λ m. Stands m s ⊎ Stands m (committed u.touched s d))
  pub ok : (s d : State) → IsDraftedAt facts u s d → OnOk result (IsAt facts new (committed u.touched s d))
  pub held : KeepsHeld facts u.store new
  pub on_any_disk : Changed facts Device Reopen u.store new (commit_calls u.touched (length u.entries)) (λ e. (e ≡ Device) ⊎ (e ≡ Reopen)) result
  pub entries : OnOk result (new.entries ≡ u.entries)
  pub preloads : OnOk result (listed_preloads new.root ≡ u.preloads)
  pub placed : OnOk result (u.touched ≡ touched.List → AreTaken (layout_drafted u) (catalogues_of new.root))
  pub catalogues : OnOk result (u.touched ≢ touched.List → catalogues_of new.root ≡ catalogues_of u.store.root)
  pub given_up : OnErr result ((new.root ≡ u.store.root) × (new.entries ≡ u.store.entries) × (new.held ≡ u.store.held))
  pub same : u.touched ≡ touched.Nothing → new ≡ u.store
