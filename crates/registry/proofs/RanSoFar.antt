-- The facts that are known of a run between two exchanges, and which exchange a failing write or sync
-- cut off.
use Rattle.std.proofs.Common.{◌≡◌, ◌⊎◌, ◌+◌, ◌≤◌, ℕ, IsTrue, List, length, take, map}
use Rattle.sector_disk.specs.Disk.{Sector, DiskFacts, MixtureAt, Mixture, KeepsPast, LeavesOnly}
use Rattle.store.specs.Opened.{Opened}
use Rattle.states.specs.State.{State}
use Rattle.requests.specs.Runs.{last_of, after}
use Rattle.requests.specs.declared.refusal.Refusal.TheVariants.{Device}
use Rattle.requests.specs.declared.reply.Reply.{Reply}
use Rattle.requests.specs.declared.reply.Reply.TheVariants.{Refused}
use Rattle.registry.specs.Stands.{Stands}
use Rattle.registry.specs.Opened.{IsAt}
use Rattle.registry.specs.Acknowledged.{Transaction, Exchange, answered, acknowledged, outcome, state_after, FailedAt}
use Rattle.registry.specs.Ran.{Point, point, disk_at, Moves, LeadsThrough, HoldsAcknowledged, HasBegun}

-- An exchange with a registry at a state ended at the point u. The record has the states that a stop
-- leaves, and how the exchange ends. Only an exchange that was answered with S1 and made the registry
-- unusable may have taken effect although it wasn't acknowledged.
pub record Turns {D : Type 0} (facts : D → DiskFacts) (mid : Opened D) (s : State) (asked : Transaction) (answer : Reply) (u : Point D) : Type 0 where
  pub moves : Moves facts (point mid s) (answered asked answer) u
  pub any_moment : LeavesOnly (facts mid.disk) (disk_at facts u) (λ m. Stands m s ⊎ (Stands m u.state ⊎ ((answer ≡ Refused Device) × IsTrue u.registry.failed × Stands m (outcome s asked))))
  pub kept : IsAt facts u.registry u.state ⊎ (IsTrue u.registry.failed × (u.state ≡ s))

module _ {D : Type 0} (facts : D → DiskFacts) (start : Point D) (exchanges : List Exchange) (points : List (Point D)) where
  -- Exchange number k was answered with S1 because a write or a sync failed, and took effect.
  abbrev pub IsFoundDone : ℕ → List Sector → Type 0
  IsFoundDone k m = (asked : Transaction) × FailedAt exchanges k asked × IsTrue (after start points (k + 1)).registry.failed × Stands m (outcome (after start points k).state asked)

  -- What a stop at a moment leaves. Either it is the state after the first k exchanges, which had all
  -- begun by then and contain every command acknowledged by then. Or it is the state after the next
  -- exchange, which had also begun and was cut off.
  abbrev pub LeavesPrefix : ℕ → List Sector → Type 0
  LeavesPrefix moment m = (k : ℕ) × (k ≤ length exchanges) × HoldsAcknowledged facts start exchanges points k moment
      × ((HasBegun facts start exchanges points k moment × Stands m (after start points k).state)
      ⊎ (HasBegun facts start exchanges points (k + 1) moment × IsFoundDone k m))

  -- a run that may still go on
  pub record RanSoFar (end : Point D) : Type 0 where
    pub steps : LeadsThrough facts start exchanges points
    pub last : end ≡ last_of start points
    pub states : (k : ℕ) → (after start points k).state ≡ state_after start.state (acknowledged (take k exchanges))
    pub past : KeepsPast (disk_at facts start) (disk_at facts end)
    pub any_moment : (moment : ℕ) (m : List Sector) → (disk_at facts start).time ≤ moment → moment ≤ (disk_at facts end).time → MixtureAt (disk_at facts end) moment m → LeavesPrefix moment m
    pub kept : IsAt facts end.registry end.state ⊎ IsTrue end.registry.failed
    pub found : (m : List Sector) → Mixture (disk_at facts end) m
        → Stands m end.state ⊎ (IsTrue end.registry.failed × (k : ℕ) × (asked : Transaction) × FailedAt exchanges k asked × Stands m (outcome end.state asked))

-- a run that may still go on, with these registries after the exchanges
abbrev pub RunsVia : {D : Type 0} → (D → DiskFacts) → Opened D → List (Opened D) → Opened D → State → List Exchange → Type 0
RunsVia facts old registries new s exchanges = (s' : State) × (points : List (Point _)) × (map (λ (p : Point _). p.registry) points ≡ registries)
    × RanSoFar facts (point old s) exchanges points (point new s')

-- a run that may still go on, with some registries after the exchanges
abbrev pub RunsSoFar : {D : Type 0} → (D → DiskFacts) → Opened D → Opened D → State → List Exchange → Type 0
RunsSoFar facts old new s exchanges = (registries : List (Opened _)) × RunsVia facts old registries new s exchanges
