-- The messages of an update on standard error (own).
use Rattle.std.specs.Prelude.{ℕ, List, codes}
use Rattle.scripts.specs.declared.fault.ScriptFault.{ScriptFault}
use Rattle.scripts.specs.declared.fault.ScriptFault.TheVariants as fault
use Rattle.tool_parts.specs.Said.{cannot_write_line, memory_line}

-- the message that reports why no more lines were read
abbrev pub fault_line : ScriptFault → List ℕ
fault_line fault.Read = codes "rlibreg-tool: cannot read\n"
fault_line fault.Write = cannot_write_line
fault_line fault.OutOfMemory = memory_line
