-- The text that an update writes to the output and to standard error (own).
use Rattle.std.specs.Prelude.{◌≡◌, ◌⊎◌, ℕ, List}
use Rattle.program_parts.specs.Streams.{Streams}
use Rattle.program_parts.specs.declared.status.Status.{Status}
use Rattle.scripts.specs.declared.fault.ScriptFault.{ScriptFault}
use Rattle.scripts.specs.declared.fault.ScriptFault.TheVariants.{Write}
use Rattle.tool_parts.specs.Streams as outputs
use Rattle.updates.specs.Said.{fault_line}
use Rattle.updates.specs.Status.{fault_status}

-- the output and standard error
abbrev pub outputs_of : Streams → outputs.Streams
outputs_of io = record { before = io.before; after = io.after; errors_before = io.errors_before; errors_after = io.errors_after }

-- the output failed, and standard error reports only this
abbrev pub CannotWrite : Streams → Status → Type 0
CannotWrite io status = outputs.CannotWrite (outputs_of io) status

-- Exactly `text` was written to the output, nothing was written to standard error, and the status
-- is `ends`; or the output failed.
abbrev pub TellsOnly : Status → List ℕ → Streams → Status → Type 0
TellsOnly ends text io status = outputs.TellsOnly ends text (outputs_of io) status

-- nothing was written to the output, at most `line` was written to standard error, and the status is
-- `ends`
abbrev pub SaysOnly : Status → List ℕ → Streams → Status → Type 0
SaysOnly ends line io status = outputs.SaysOnly ends line (outputs_of io) status

-- A fault ended the lines. Exactly `text` was written to the output, standard error reports the
-- fault, and the status is that of the fault; or the output failed.
abbrev pub BreaksOff : ScriptFault → List ℕ → Streams → Status → Type 0
BreaksOff Write text io status = CannotWrite io status
BreaksOff fault text io status =
    ((status ≡ fault_status fault) × outputs.Tells (outputs_of io) text × outputs.Says (outputs_of io) (fault_line fault)) ⊎ CannotWrite io status
