-- Exit statuses.
use Rattle.std.specs.Prelude.{ℕ, ◌==◌, Result, Ok, Err, if◌then◌else◌, nat_lt}
use Rattle.binders.specs.declared.event.EventReply.{EventReply}
use Rattle.binders.specs.declared.event.EventReply.TheVariants as event
use Rattle.store.specs.declared.refusal.StoreRefusal.{StoreRefusal}
use Rattle.scripts.specs.declared.fault.ScriptFault.{ScriptFault}
use Rattle.scripts.specs.declared.fault.ScriptFault.TheVariants as fault
use Rattle.commands.specs.declared.show.Shown.{Shown}
use Rattle.commands.specs.declared.show.Shown.TheVariants as shown
use Rattle.program_parts.specs.Status.{disk_status, reply_status, status_number}
use Rattle.program_parts.specs.declared.status.Status.{Status}
use Rattle.program_parts.specs.declared.status.Status.TheVariants.{Done, Refused, Failed, NoMemory}

-- the status with the greater number
abbrev pub greatest : Status → Status → Status
greatest a b = if nat_lt (status_number a) (status_number b) then b else a

-- the status after an attempt to show an image
abbrev pub status_of : Result Shown ScriptFault → Status
status_of (Ok shown.Image) = Done
status_of (Ok shown.Refused) = Refused
status_of (Ok shown.NoMemory) = NoMemory
status_of (Err fault.OutOfMemory) = NoMemory
status_of (Err other) = Failed

-- the status after an event with this reply
abbrev pub event_status : EventReply → Status
event_status (event.Replied reply) = reply_status reply
event_status other = Done

-- the status after an attempt to make or upgrade a registry
abbrev pub disk_answer_status : Result (Unit {0}) StoreRefusal → Status
disk_answer_status (Ok done) = Done
disk_answer_status (Err refusal) = disk_status refusal

-- the status of a script that ended early
abbrev pub fault_status : ScriptFault → Status
fault_status fault.OutOfMemory = NoMemory
fault_status other = Failed

-- the status of a script whose number of refused lines is `refused`
abbrev pub lines_status : ℕ → Status
lines_status refused = if refused == 0 then Done else Refused
