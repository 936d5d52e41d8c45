-- The effect of the parts of an update on its draft.
use Rattle.std.specs.Prelude.{◌≡◌, ◌≢◌, ℕ, Result, OnErr, OnOk}
use Rattle.sector_disk.specs.Disk.{DiskFacts}
use Rattle.states.specs.State.{State}
use Rattle.store.specs.Changed.{Changed}
use Rattle.store.specs.Draft.{Drafted, IsDraftedAt, IsSameDraft, StaysBeside, listing}
use Rattle.store.specs.IsRead.{IsRead}
use Rattle.store.specs.declared.draft.Touched.TheVariants.{Nothing}
use Rattle.requests.specs.declared.refusal.Refusal.{Refusal}
use Rattle.requests.specs.declared.refusal.Refusal.TheVariants.{Device, Reopen}
use Rattle.store.specs.declared.refusal.StoreRefusal.{StoreRefusal}
use Rattle.registry.specs.inside.Reading.{IsReadRefusal}

-- On any disk, a change of the draft made at most `most` calls. If the change was refused, `Refuses`
-- holds for the refusal.
pub record IsPlanned {D : Type 0} (facts : D → DiskFacts) (old new : Drafted D) (most : ℕ) (Refuses : Refusal → Type 0)
    (result : Result (Unit {0}) Refusal) : Type 0 where
  pub beside : StaysBeside facts old new
  pub changed : Changed facts Device Reopen old.store new.store most Refuses result
  pub refused : OnErr result (IsSameDraft old new)
  -- a successful change marks the draft as changed
  pub planned : OnOk result (new.touched ≢ Nothing)

-- Files of the draft were read. The draft keeps its state and its entries, even if the read was
-- refused.
pub record ReadsBeside {D : Type 0} (facts : D → DiskFacts) (old new : Drafted D) : Type 0 where
  pub read : IsRead facts (listing old) (listing new)
  pub same : (s d : State) → IsDraftedAt facts old s d → IsDraftedAt facts new s d
  pub stands : new.store.entries ≡ old.store.entries
  pub draft : IsSameDraft old new

-- the refusals that reading files of a draft may return, on any disk
abbrev pub IsDraftReadRefusal : {D : Type 0} → (D → DiskFacts) → Drafted D → Drafted D → StoreRefusal → Type 0
IsDraftReadRefusal facts old new refusal = IsReadRefusal facts (listing old) (listing new) refusal
