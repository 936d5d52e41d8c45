-- The registry's answers for the store's answers to reads and changes.
use Rattle.std.specs.Prelude.{◌<◌, IsTrue, Result, Ok, Err}
use Rattle.sector_disk.specs.Disk.{DiskFacts}
use Rattle.store.specs.Opened.{Opened}
use Rattle.store.specs.declared.refusal.StoreRefusal.{StoreRefusal}
use Rattle.store.specs.declared.refusal.StoreRefusal.TheVariants.{Device, Reopen, Damaged, OutOfMemory}
use Rattle.requests.specs.declared.refusal.Refusal.{Refusal}
use Rattle.requests.specs.declared.refusal.Refusal.TheVariants as registry
use Rattle.registry.specs.Refusals.{refusal_of}

-- the refusals of a read: S1 if `has_failed` holds, S2 if `failed_before` holds, S5, and S11
abbrev pub IsReadRefusalIf : (has_failed failed_before : Type 0) → StoreRefusal → Type 0
IsReadRefusalIf has_failed failed_before Device = has_failed
IsReadRefusalIf has_failed failed_before Reopen = failed_before
IsReadRefusalIf has_failed failed_before Damaged = Unit
IsReadRefusalIf has_failed failed_before OutOfMemory = Unit
IsReadRefusalIf has_failed failed_before other = ⊥

-- the refusals of a read of a store, on any disk
abbrev pub IsReadRefusal : {D : Type 0} → (D → DiskFacts) → Opened D → Opened D → StoreRefusal → Type 0
IsReadRefusal facts old new refusal = IsReadRefusalIf ((facts old.disk).failures < (facts new.disk).failures) (IsTrue old.failed) refusal

-- The registry's refusal for a refused read. The last line is for S5, and for refusals that a read
-- never returns.
abbrev pub refusal_of_read : StoreRefusal → Refusal
refusal_of_read Device = registry.Device
refusal_of_read Reopen = registry.Reopen
refusal_of_read OutOfMemory = registry.OutOfMemory
refusal_of_read other = registry.Damaged

-- the registry's answer to a change for the store's answer
abbrev pub in_words : Result (Unit {0}) StoreRefusal → Result (Unit {0}) Refusal
in_words (Ok done) = Ok done
in_words (Err refusal) = Err (refusal_of refusal)
