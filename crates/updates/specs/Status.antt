-- The statuses of an update that changes nothing (own).
use Rattle.program_parts.specs.Status.{refusal_status}
use Rattle.program_parts.specs.declared.status.Status.{Status}
use Rattle.program_parts.specs.declared.status.Status.TheVariants as status
use Rattle.scripts.specs.declared.fault.ScriptFault.{ScriptFault}
use Rattle.scripts.specs.declared.fault.ScriptFault.TheVariants as fault
use Rattle.updates.specs.declared.answer.UpdateRefusal.{UpdateRefusal}
use Rattle.updates.specs.declared.answer.UpdateRefusal.TheVariants.{Refused}

-- the status of an update that is refused; if a command or the commit is refused, it is the status of
-- that refusal
abbrev pub update_status : UpdateRefusal → Status
update_status (Refused refusal) = refusal_status refusal
update_status refusal = status.Refused

-- the status of an update that a fault ended
abbrev pub fault_status : ScriptFault → Status
fault_status fault.OutOfMemory = status.NoMemory
fault_status other = status.Failed
