-- The state of a store that bytes hold; its files needn't be libraries (own).
use Rattle.std.specs.Prelude.{◌≡◌, ◌≢◌, ◌⊎◌, ℕ, List, length}
use Rattle.byte_disk.specs.Bytes.{IsDiskLength, sectors_in}
use Rattle.states.specs.State.{State}
use Rattle.store.specs.Opening.{RefusesOpen}
use Rattle.store.specs.Stands.{Stands}
use Rattle.store.specs.declared.refusal.StoreRefusal.{StoreRefusal}
use Rattle.store.specs.declared.refusal.StoreRefusal.TheVariants.{BadGeometry, Device, OutOfMemory}

-- The bytes have the length of a disk, and their sectors hold state s.
pub record HoldStore (bytes : List ℕ) (s : State) : Type 0 where
  pub size : IsDiskLength (length bytes)
  pub stands : Stands (sectors_in bytes) s

-- the bytes hold no state except s
abbrev pub HoldNoOther : List ℕ → State → Type 0
HoldNoOther bytes s = (other : State) → HoldStore bytes other → other ≡ s

-- The reason why opening was refused: the bytes aren't whole sectors, or the store refuses the
-- sectors.
abbrev pub IsUnopened : List ℕ → StoreRefusal → Type 0
IsUnopened bytes refusal =
    ((refusal ≡ BadGeometry) × (IsDiskLength (length bytes) → ⊥))
    ⊎ (IsDiskLength (length bytes) × RefusesOpen Stands (sectors_in bytes) refusal)

-- The reason why bytes have no contents. It is never a failed call of their disk. If the bytes hold
-- a state, the reason is refused memory.
pub record HaveNoContents (bytes : List ℕ) (refusal : StoreRefusal) : Type 0 where
  pub why : IsUnopened bytes refusal
  pub no_failure : refusal ≢ Device
  pub held : (s : State) → HoldStore bytes s → refusal ≡ OutOfMemory
