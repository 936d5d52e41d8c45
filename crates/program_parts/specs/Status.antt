-- The meaning of exit statuses (own).
use Rattle.std.specs.Prelude.{ℕ}
use Rattle.image.specs.declared.refusal.BindRefusal.TheVariants as bind
use Rattle.requests.specs.declared.refusal.Refusal.{Refusal}
use Rattle.requests.specs.declared.refusal.Refusal.TheVariants as refusal
use Rattle.requests.specs.declared.reply.Reply.{Reply}
use Rattle.requests.specs.declared.reply.Reply.TheVariants as reply
use Rattle.store.specs.declared.refusal.StoreRefusal.{StoreRefusal}
use Rattle.store.specs.declared.refusal.StoreRefusal.TheVariants as store
use Rattle.program_parts.specs.declared.status.Status.{Status}
use Rattle.program_parts.specs.declared.status.Status.TheVariants.{Done, Refused, BadWords, Failed, NoMemory}

-- the number with which the process exits
abbrev pub status_number : Status → ℕ
status_number Done = 0
status_number Refused = 1
status_number BadWords = 2
status_number Failed = 3
status_number NoMemory = 4

-- the status after a disk was refused: S1 and S2 are failures, and S11 is refused memory
abbrev pub disk_status : StoreRefusal → Status
disk_status store.Device = Failed
disk_status store.Reopen = Failed
disk_status store.OutOfMemory = NoMemory
disk_status other = Refused

-- the status after a command was refused: S1 and S2 are failures, and S11 is refused memory
abbrev pub refusal_status : Refusal → Status
refusal_status refusal.Device = Failed
refusal_status refusal.Reopen = Failed
refusal_status refusal.OutOfMemory = NoMemory
refusal_status (refusal.Bind bind.OutOfMemory) = NoMemory
refusal_status other = Refused

-- the status after a reply
abbrev pub reply_status : Reply → Status
reply_status (reply.Refused refusal) = refusal_status refusal
reply_status other = Done
