-- The refusals of the store as refusals of a registry (own).
use Rattle.store.specs.declared.refusal.StoreRefusal.{StoreRefusal}
use Rattle.store.specs.declared.refusal.StoreRefusal.TheVariants as store
use Rattle.requests.specs.declared.refusal.Refusal.{Refusal}
use Rattle.requests.specs.declared.refusal.Refusal.TheVariants.{Device, Reopen, Damaged, Full, Fragmented, TooMany, GenerationEnd, OutOfMemory}

-- The registry's refusal for a refusal of the store, with the same number. The last line is for
-- refusals that don't occur here.
abbrev pub refusal_of : StoreRefusal → Refusal
refusal_of store.Device = Device
refusal_of store.Reopen = Reopen
refusal_of store.Full = Full
refusal_of store.Fragmented = Fragmented
refusal_of store.TooMany = TooMany
refusal_of store.GenerationEnd = GenerationEnd
refusal_of store.OutOfMemory = OutOfMemory
refusal_of other = Damaged
