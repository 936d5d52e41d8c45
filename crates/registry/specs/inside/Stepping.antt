-- The results of a binder's step if a read or the bind is refused.
use Rattle.std.specs.Prelude.{Result, Ok, Err}
use Rattle.image.specs.declared.refusal.BindRefusal.{BindRefusal}
use Rattle.image.specs.declared.refusal.BindRefusal.TheVariants as binding
use Rattle.store.specs.declared.refusal.StoreRefusal.{StoreRefusal}
use Rattle.store.specs.declared.refusal.StoreRefusal.TheVariants as reading
use Rattle.requests.specs.declared.refusal.Refusal.{Refusal}
use Rattle.requests.specs.declared.refusal.Refusal.TheVariants.{Bind, Device, Reopen, Damaged, OutOfMemory}
use Rattle.requests.specs.declared.reply.Reply.TheVariants.{Refused}
use Rattle.registry.specs.declared.binder.Step.{Step}
use Rattle.registry.specs.declared.binder.Step.TheVariants.{Final}

-- the result of a step if binding was refused
abbrev pub refused_step : BindRefusal → Result Step Refusal
refused_step binding.OutOfMemory = Err OutOfMemory
refused_step refusal = Ok (Final (Refused (Bind refusal)))

-- the result of a step if a read was refused
abbrev pub unread_step : StoreRefusal → Result Step Refusal
unread_step reading.Device = Err Device
unread_step reading.Reopen = Err Reopen
unread_step reading.OutOfMemory = Err OutOfMemory
unread_step refusal = Ok (Final (Refused Damaged))
