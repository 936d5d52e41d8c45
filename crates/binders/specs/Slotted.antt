-- A registry with binders in slots, and the flights of these binders (own).
use Rattle.std.specs.Prelude.{◌≡◌, ◌≤◌, ◌<◌, ℕ, List, length, position, is_none, slice_index_or, sum_by, Option, Some, None}
use Rattle.sector_disk.specs.Disk.{DiskFacts}
use Rattle.snapshots.specs.Snapshot.{times}
use Rattle.store.specs.Holds.{holders_of}
use Rattle.store.specs.Opened.{Opened}
use Rattle.registry.specs.Flight.{Flight}
use Rattle.registry.specs.Flying.{Flies, handles_of}
use Rattle.registry.specs.inside.Binding.{Binding}

-- a registry, and its slots, each of which has a binder or is free
pub record Slotted (D : Type 0) : Type 0 where
  pub registry : Opened D
  pub slots : List (Option Binding)

-- the lowest slot without a binder, or none if each slot has a binder
abbrev pub lowest_free : List (Option Binding) → Option ℕ
lowest_free slots = position is_none slots

-- the number of times that the binder in a slot holds the byte string with this entry sector
abbrev pub held_in : ℕ → Option Binding → ℕ
held_in sector None = 0
held_in sector (Some binder) = times sector (handles_of binder)

-- the number of times that the binders in all slots hold the byte string with this entry sector
abbrev pub held_by : List (Option Binding) → ℕ → ℕ
held_by slots sector = sum_by (λ slot. held_in sector slot) slots

-- In the registry, each byte string is held at least as many times as the binders hold it.
abbrev pub IsHeld : {D : Type 0} → Opened D → List (Option Binding) → Type 0
IsHeld registry slots = (sector : ℕ) → held_by slots sector ≤ holders_of registry.held sector

-- Nobody except the binders holds byte strings.
abbrev pub HoldAlone : {D : Type 0} → Slotted D → Type 0
HoldAlone binders = (sector : ℕ) → holders_of binders.registry.held sector ≡ held_by binders.slots sector

-- the binder in a slot is on this flight, or there is neither a binder nor a flight
abbrev pub IsOn : {D : Type 0} → (D → DiskFacts) → Opened D → Option Binding → Option Flight → Type 0
IsOn facts registry None None = Unit {0}
IsOn facts registry (Some binder) (Some flight) = Flies facts registry binder flight
IsOn facts registry slot flight = ⊥

-- The binders are on these flights, slot by slot.
pub record AreOn {D : Type 0} (facts : D → DiskFacts) (binders : Slotted D) (flights : List (Option Flight)) : Type 0 where
  pub count : length flights ≡ length binders.slots
  pub each : (i : ℕ) → i < length flights → IsOn facts binders.registry (slice_index_or binders.slots i None) (slice_index_or flights i None)
