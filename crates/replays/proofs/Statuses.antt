-- Lemmas about ends with a status other than 0.
use Rattle.std.proofs.Common.{◌≡◌}
use Rattle.image.specs.declared.refusal.BindRefusal.TheVariants as bind
use Rattle.store.specs.declared.refusal.StoreRefusal.{StoreRefusal}
use Rattle.store.specs.declared.refusal.StoreRefusal.TheVariants as store
use Rattle.requests.specs.declared.refusal.Refusal.{Refusal}
use Rattle.requests.specs.declared.refusal.Refusal.TheVariants as refusal
use Rattle.program_parts.specs.Status.{disk_status, refusal_status}
use Rattle.program_parts.specs.declared.status.Status.TheVariants as status
use Rattle.scripts.specs.declared.fault.ScriptFault.{ScriptFault}
use Rattle.scripts.specs.declared.fault.ScriptFault.TheVariants as fault
use Rattle.updates.specs.Status.{fault_status, update_status}
use Rattle.updates.specs.declared.answer.UpdateRefusal.{UpdateRefusal}
use Rattle.updates.specs.declared.answer.UpdateRefusal.TheVariants as update

-- the status of a disk's refusal isn't 0
pub not_done : (r : StoreRefusal) → status.Done ≡ disk_status r → ⊥
not_done store.Device h = cc h
not_done store.Reopen h = cc h
not_done store.OutOfMemory h = cc h
not_done r h = cc h

-- the status of a command's refusal isn't 0
not_answered : (r : Refusal) → status.Done ≡ refusal_status r → ⊥
not_answered refusal.Device h = cc h
not_answered refusal.Reopen h = cc h
not_answered refusal.OutOfMemory h = cc h
not_answered (refusal.Bind bind.OutOfMemory) h = cc h
not_answered (refusal.Bind r) h = cc h
not_answered r h = cc h

-- the status of an update's refusal isn't 0
pub not_updated : (r : UpdateRefusal) → status.Done ≡ update_status r → ⊥
not_updated (update.Refused r) h = not_answered r h
not_updated r h = cc h

-- the status of an update that a fault ended isn't 0
pub not_read : (f : ScriptFault) → status.Done ≡ fault_status f → ⊥
not_read fault.OutOfMemory h = cc h
not_read f h = cc h
