-- The lines that several forms write to standard error (own).
use Rattle.std.specs.Prelude.{ℕ, List, ◌++◌, codes}
use Rattle.store.specs.declared.refusal.StoreRefusal.{StoreRefusal}
use Rattle.store.specs.declared.refusal.StoreRefusal.TheVariants as store
use Rattle.program_parts.specs.Refusal.{disk_refusal_text}

-- a line on standard error with this text; every line except the usage begins with the program's name
abbrev pub said_line : List ℕ → List ℕ
said_line text = codes "rlibreg-tool: " ++ text

-- the line that reports why a disk is refused
abbrev pub refusal_line : StoreRefusal → List ℕ
refusal_line refusal = said_line (disk_refusal_text refusal)

-- the line that reports that a call of the disk failed
abbrev pub device_line : List ℕ
device_line = refusal_line store.Device

-- the line that reports that memory was refused
abbrev pub memory_line : List ℕ
memory_line = refusal_line store.OutOfMemory

-- the line that reports that the output failed
abbrev pub cannot_write_line : List ℕ
cannot_write_line = codes "rlibreg-tool: cannot write\n"
