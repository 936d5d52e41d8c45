-- Runs: exchanges with a registry on a disk, made one after the other (own).
use Rattle.std.specs.Prelude.{◌≡◌, ◌⊎◌, ◌+◌, ◌<◌, ◌≤◌, ℕ, IsTrue, List, [], ◌∷◌, length, take, map}
use Rattle.sector_disk.specs.Disk.{Sector, DiskFacts, MixtureAt, Mixture, LeavesOnly, KeepsPast, AreCallsExactly}
use Rattle.store.specs.Draft.{Drafted, begun}
use Rattle.store.specs.Opened.{Opened}
use Rattle.states.specs.State.{State}
use Rattle.requests.specs.Request.{Request}
use Rattle.requests.specs.Runs.{last_of, after}
use Rattle.requests.specs.declared.refusal.Refusal.TheVariants.{Device, Reopen}
use Rattle.requests.specs.declared.reply.Reply.{Reply}
use Rattle.requests.specs.declared.reply.Reply.TheVariants.{Done, Refused}
use Rattle.registry.specs.Stands.{Stands}
use Rattle.registry.specs.Opened.{IsAt}
use Rattle.registry.specs.Applied.{Applied}
use Rattle.registry.specs.Answered.{Did}
use Rattle.registry.specs.Calls.{IfAccepted, calls_of}
use Rattle.registry.specs.Updating.{IsUpdate, updated}
use Rattle.registry.specs.Acknowledged.{Transaction, command, update, Exchange, answered, given_up, stepped, commanded, acknowledged, state_after, AreAccepted, IsAcknowledgedAt}

-- a registry between two exchanges, and its state; if a write or a sync failed in an exchange, the state
-- is the one before that exchange
pub record Point (D : Type 0) : Type 0 where
  pub registry : Opened D
  pub state : State

-- the point that consists of a registry and its state
abbrev pub point : {D : Type 0} → Opened D → State → Point D
point registry s = record { registry = registry; state = s }

-- the facts of the disk at a point
abbrev pub disk_at : {D : Type 0} → (D → DiskFacts) → Point D → DiskFacts
disk_at facts p = facts p.registry.disk

-- the command is applied to the registry at the state of `p`; if the command is accepted, it makes
-- exactly the calls that `calls_of` counts
pub record AppliesAt {D : Type 0} (facts : D → DiskFacts) (p : Point D) (request : Request) (answer : Reply) (p' : Point D) : Type 0 where
  pub at : IsAt facts p.registry p.state
  pub applied : Applied facts p.registry p'.registry p.state p'.state request answer
  pub calls : IfAccepted answer (AreCallsExactly (calls_of p.state request) (disk_at facts p) (disk_at facts p'))

-- one command of a run: it is applied; or an earlier write or sync failed, and it does nothing
pub record Goes {D : Type 0} (facts : D → DiskFacts) (p : Point D) (request : Request) (answer : Reply) (p' : Point D) : Type 0 where
  pub did : Did facts p.registry p'.registry request answer
  pub applied : AppliesAt facts p request answer p' ⊎ (IsTrue p.registry.failed × (p' ≡ p))

-- The registry stays at its state. From p to p', a stop leaves only sectors that a stop could leave
-- at p.
pub record IdlesAt {D : Type 0} (facts : D → DiskFacts) (p p' : Point D) : Type 0 where
  pub before : IsAt facts p.registry p.state
  pub after : IsAt facts p'.registry p'.state
  pub any_moment : LeavesOnly (disk_at facts p) (disk_at facts p') (Mixture (disk_at facts p))

-- the request is for no change: the registry stays at its state; or an earlier write or sync
-- failed, and no call is made
pub record Idles {D : Type 0} (facts : D → DiskFacts) (p p' : Point D) : Type 0 where
  pub same : p'.state ≡ p.state
  pub stays : IdlesAt facts p p' ⊎ (IsTrue p.registry.failed × IsTrue p'.registry.failed × (p'.registry.disk ≡ p.registry.disk))

-- An update is applied to a registry at a state. The step table determined the answers to the
-- requests, which were planned in a draft one after the other. The commit was answered with
-- `answer`.
pub record UpdatesAt {D : Type 0} (facts : D → DiskFacts) (p : Point D) (requests : List Request) (answer : Reply) (p' : Point D) : Type 0 where
  pub at : IsAt facts p.registry p.state
  pub draft : Drafted D
  pub answers : List Reply
  pub planned : IsUpdate facts (begun p.registry) draft p.state requests answers
  -- a stop at any moment leaves the state before the update, or the state after all of its requests
  pub any_moment : LeavesOnly (disk_at facts p) (disk_at facts p') (λ m. Stands m p.state ⊎ Stands m (updated p.state requests))
  -- the commit is acknowledged, and p' has the updated state; or a write or a sync failed, and p'
  -- has the state before the update
  pub ends : ((answer ≡ Done) × (p'.state ≡ updated p.state requests) × IsAt facts p'.registry p'.state)
      ⊎ ((answer ≡ Refused Device) × (p'.state ≡ p.state) × IsTrue p'.registry.failed)

-- one update of a run: it is applied; or an earlier write or sync failed, and it does nothing
abbrev pub Updates : {D : Type 0} → (D → DiskFacts) → Point D → List Request → Reply → Point D → Type 0
Updates facts p requests answer p' = UpdatesAt facts p requests answer p' ⊎ (IsTrue p.registry.failed × (answer ≡ Refused Reopen) × (p' ≡ p))

-- An update is given up. The state is unchanged, even if a write of the update's draft failed.
pub record GivesUp {D : Type 0} (facts : D → DiskFacts) (p p' : Point D) : Type 0 where
  pub at : IsAt facts p.registry p.state
  pub same : p'.state ≡ p.state
  pub any_moment : LeavesOnly (disk_at facts p) (disk_at facts p') (λ m. Stands m p.state)
  pub kept : IsAt facts p'.registry p.state ⊎ IsTrue p'.registry.failed

-- the exchange changed point p to point p'
abbrev pub Moves : {D : Type 0} → (D → DiskFacts) → Point D → Exchange → Point D → Type 0
Moves facts p (answered (command request) answer) p' = Goes facts p request answer p'
Moves facts p (answered (update requests) answer) p' = Updates facts p requests answer p'
Moves facts p given_up p' = GivesUp facts p p'
Moves facts p stepped p' = Idles facts p p'

-- The exchanges were made one after the other, beginning at point p. `ts` has the point after each
-- exchange.
abbrev pub LeadsThrough : {D : Type 0} → (D → DiskFacts) → Point D → List Exchange → List (Point D) → Type 0
LeadsThrough facts p [] [] = Unit {0}
LeadsThrough facts p (x ∷ xs) (t ∷ ts) = Moves facts p x t × LeadsThrough facts t xs ts
LeadsThrough facts p xs ts = ⊥

-- after these exchanges from state s, every mixture that a stop may leave holds the state after the
-- accepted commands and updates
abbrev pub FindsAccepted : {D : Type 0} → (D → DiskFacts) → Opened D → State → List Exchange → Type 0
FindsAccepted facts new s exchanges = (m : List Sector) → Mixture (facts new.disk) m
    → (taken : List Transaction) × AreAccepted exchanges taken × Stands m (state_after s taken)

module _ {D : Type 0} (facts : D → DiskFacts) (start : Point D) (exchanges : List Exchange) (points : List (Point D)) where
  -- by this moment, the last of the first k exchanges has begun
  abbrev pub HasBegun : ℕ → ℕ → Type 0
  HasBegun k moment = (i : ℕ) → i + 1 ≡ k → (disk_at facts (after start points i)).time ≤ moment

  -- every command and update that was acknowledged by this moment is among the first k exchanges;
  -- the other commands and updates are acknowledged later, or never
  abbrev pub HoldsAcknowledged : ℕ → ℕ → Type 0
  HoldsAcknowledged k moment = (i : ℕ) → k ≤ i → IsAcknowledgedAt exchanges i → moment < (disk_at facts (after start points (i + 1))).time

  -- a stop at this moment leaves the state after the accepted commands and updates among the first
  -- k exchanges, for a number k that satisfies `HasBegun` and `HoldsAcknowledged`
  abbrev pub LeavesAccepted : ℕ → List Sector → Type 0
  LeavesAccepted moment m = (k : ℕ) × (k ≤ length exchanges) × HasBegun k moment × HoldsAcknowledged k moment
      × (taken : List Transaction) × AreAccepted (take k exchanges) taken × Stands m (state_after start.state taken)

  -- Commands and updates were answered, with other exchanges between them. `points` has the point after
  -- each exchange.
  pub record Ran (end : Point D) : Type 0 where
    pub steps : LeadsThrough facts start exchanges points
    pub last : end ≡ last_of start points
    -- the state after the first k exchanges is the state after the acknowledged commands and updates
    -- among them
    pub states : (k : ℕ) → (after start points k).state ≡ state_after start.state (acknowledged (take k exchanges))
    -- at the end the registry is at the last state, unless a write or a sync failed
    pub kept : IsAt facts end.registry end.state ⊎ IsTrue end.registry.failed
    -- at each moment from start to end, even while calls fail, a stop leaves a state that
    -- `LeavesAccepted` allows
    pub past : KeepsPast (disk_at facts start) (disk_at facts end)
    pub any_moment : (moment : ℕ) (m : List Sector) → (disk_at facts start).time ≤ moment → moment ≤ (disk_at facts end).time
        → MixtureAt (disk_at facts end) moment m → LeavesAccepted moment m
    pub found : FindsAccepted facts end.registry start.state exchanges

-- the exchanges changed the registry `old` to `new`, and `registries` has the registry after each
-- exchange
abbrev pub RunsThrough : {D : Type 0} → (D → DiskFacts) → Opened D → List (Opened D) → Opened D → State → List Exchange → Type 0
RunsThrough facts old registries new s exchanges = (s' : State) × (points : List (Point _))
    × (map (λ (p : Point _). p.registry) points ≡ registries) × Ran facts (point old s) exchanges points (point new s')

-- commands were answered, with one reply for each command
abbrev pub RunsOver : {D : Type 0} → (D → DiskFacts) → Opened D → Opened D → State → List Request → List Reply → Type 0
RunsOver facts old new s requests answers = (registries : List (Opened _)) × (length answers ≡ length requests)
    × RunsThrough facts old registries new s (commanded requests answers)
