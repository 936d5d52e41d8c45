-- The answers to commands for the registry that bytes hold (own).
use Rattle.std.specs.Prelude.{◌≡◌, ◌⊎◌, ◌≤◌, ◌+◌, ℕ, List, [], ◌∷◌, length, Err, Option, None, Some}
use Rattle.sector_disk.specs.Disk.{StartsWith}
use Rattle.byte_disk.specs.declared.disk.ByteDisk.{ByteDisk}
use Rattle.byte_disk.specs.declared.step.Step.{Step}
use Rattle.byte_disk.specs.declared.step.Step.TheVariants.{Sync}
use Rattle.byte_disk.specs.Bytes.{IsDiskLength, sectors_in}
use Rattle.byte_disk.specs.ByteDisk.{byte_facts, given_to, plan_of}
use Rattle.states.specs.Cost.{catalogues_for}
use Rattle.states.specs.State.{State, empty_state}
use Rattle.store.specs.Opening.{HasRootMagic, RefusesFormat, RefusesLook}
use Rattle.store.specs.Stands as sectors
use Rattle.store.specs.Step.{refusal_of_upgrade, IsUpgradeAnswer}
use Rattle.store.specs.Upgraded.{upgraded}
use Rattle.store.specs.declared.refusal.StoreRefusal.{StoreRefusal}
use Rattle.store.specs.declared.refusal.StoreRefusal.TheVariants.{Device, OutOfMemory, BadGeometry}
use Rattle.requests.specs.Request.{Request}
use Rattle.requests.specs.Step.{accepted}
use Rattle.requests.specs.declared.reply.Reply.{Reply}
use Rattle.requests.specs.declared.reply.Reply.TheVariants.{Done}
use Rattle.byte_registry.specs.Bytes as contents
use Rattle.byte_registry.specs.Bytes.{HoldStore}
use Rattle.registry.specs.Calls.{calls_of}
use Rattle.registry.specs.Stands.{Stands, StandsOld, StandsEither}
use Rattle.registry.specs.Upgraded.{IsNotOld}
use Rattle.byte_registry.specs.Plans.{Holds, LeadsFrom, LeadsTo, most_steps}
use Rattle.byte_registry.specs.Replies.{IsReplyOn}

-- the disk with these bytes, before any call
pub record IsDiskOf (bytes : List ℕ) (disk : ByteDisk) : Type 0 where
  pub size : IsDiskLength (length bytes)
  pub starts : StartsWith (byte_facts disk) (sectors_in bytes)
  pub given : given_to disk ≡ sectors_in bytes
  pub unplanned : plan_of disk ≡ []

-- the number of failed calls of a disk, or 0 if there is no disk; each of these calls failed because
-- memory was refused
abbrev pub failures_of : Option ByteDisk → ℕ
failures_of None = 0
failures_of (Some disk) = (byte_facts disk).failures

-- the bytes don't have the length of a disk, and the refusal is S6
abbrev pub IsBadLength : List ℕ → StoreRefusal → Type 0
IsBadLength bytes refusal = (refusal ≡ BadGeometry) × (IsDiskLength (length bytes) → ⊥)

-- Opening the bytes `bytes` was refused with `refusal`. If the bytes hold a state of a store, even
-- if its files aren't libraries, the reason is a failed call or refused memory.
pub record IsUnopened (bytes : List ℕ) (refusal : StoreRefusal) : Type 0 where
  pub why : contents.IsUnopened bytes refusal
  pub held : (s : State) → HoldStore bytes s → (refusal ≡ Device) ⊎ (refusal ≡ OutOfMemory)

-- The bytes hold state s and no other state; its files needn't be libraries. The registry on them
-- answered the request by the step table. If the answer is Done, these steps lead to the state
-- after the accepted request. No file is read, except those that a bind needs.
pub record IsAsked (bytes : List ℕ) (s : State) (request : Request) (reply : Reply) (steps : List Step) : Type 0 where
  pub holds : HoldStore bytes s
  pub only : (other : State) → HoldStore bytes other → other ≡ s
  pub by_table : IsReplyOn (sectors_in bytes) s request reply
  pub leads : reply ≡ Done → LeadsTo sectors.Stands (sectors_in bytes) s (accepted s request) steps
  -- if s is a state of a registry, the steps lead to a state of a registry
  pub registry : reply ≡ Done → Holds bytes s → LeadsTo Stands (sectors_in bytes) s (accepted s request) steps
  -- the number of steps is at most the number of calls that the change makes, plus one for the sync
  -- before them; it is also at most `most_steps request`
  pub few : reply ≡ Done → length steps ≤ calls_of s request + 1
  pub at_most : reply ≡ Done → length steps ≤ most_steps request

-- An empty registry was made on these bytes. The bytes had no root before, and the steps lead from
-- their sectors to sectors that hold the empty state.
pub record IsFormatted (bytes : List ℕ) (steps : List Step) : Type 0 where
  pub size : IsDiskLength (length bytes)
  pub unformatted : HasRootMagic (sectors_in bytes) → ⊥
  pub leads : LeadsFrom (sectors_in bytes) (λ m. m ≡ sectors_in bytes) (λ m. Stands m empty_state) steps
  -- there are at most three steps: a sync, the write of the root, and a sync
  pub few : length steps ≤ 3

-- making a registry on the bytes was refused with `refusal`
abbrev pub IsUnformatted : List ℕ → StoreRefusal → Type 0
IsUnformatted bytes refusal = IsBadLength bytes refusal ⊎ IsDiskLength (length bytes) × RefusesFormat (sectors_in bytes) refusal

-- The bytes are those of a disk of version 1 that holds state s.
pub record HoldsOld (bytes : List ℕ) (s : State) : Type 0 where
  pub size : IsDiskLength (length bytes)
  pub stands : StandsOld (sectors_in bytes) s

-- The bytes hold state s by the rules of version 1, and the steps lead to the upgraded state.
pub record LeadsOver (bytes : List ℕ) (s : State) (steps : List Step) : Type 0 where
  pub holds : HoldsOld bytes s
  pub leads : LeadsFrom (sectors_in bytes) (λ m. StandsOld m s) (λ m. Stands m (upgraded s)) steps
  -- there are at most these steps: a sync, the writes of the catalogues, a sync, the write of the root,
  -- and a sync
  pub few : length steps ≤ catalogues_for (length s.libraries) + 4

-- The registry is now of version 2. The bytes hold state s by the rules of version 1, and the steps
-- lead to the upgraded state; or they hold s by the rules of version 2, and the only step is a
-- sync.
abbrev pub IsUpgraded : List ℕ → State → List Step → Type 0
IsUpgraded bytes s steps =
    LeadsOver bytes s steps
    ⊎ (Holds bytes s × LeadsTo Stands (sectors_in bytes) s s steps × (steps ≡ Sync ∷ []))

-- Upgrading the registry on the bytes was refused with `refusal`. If the bytes hold a state of
-- version 1, the reason is the refusal of the tests of an upgrade, or refused memory. If they hold
-- a state of version 2, the reason is refused memory. Otherwise the reason is S6 for a bad length,
-- or a refusal that `RefusesLook` allows.
pub record IsUnupgraded (bytes : List ℕ) (refusal : StoreRefusal) : Type 0 where
  pub old : (s : State) → HoldsOld bytes s → IsUpgradeAnswer (refusal_of_upgrade (length (sectors_in bytes)) s) (Err refusal)
  pub held : (s : State) → Holds bytes s → (refusal ≡ Device) ⊎ (refusal ≡ OutOfMemory)
  pub why : IsBadLength bytes refusal ⊎ IsDiskLength (length bytes) × (IsNotOld (sectors_in bytes) → RefusesLook StandsEither (sectors_in bytes) refusal)
