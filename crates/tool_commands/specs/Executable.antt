-- The executable file of a bound program, and the ends of a form that writes it (own).
use Rattle.std.specs.Prelude.{◌≡◌, ◌⊎◌, ◌≤◌, ℕ, List, codes}
use Rattle.elf_file.specs.Header.{header_count}
use Rattle.image.specs.Image.{MemoryImage}
use Rattle.executable.specs.Outcome.{IsExecutableOf, executable_refusal_text}
use Rattle.executable.specs.Refusal.{IsAnswer}
use Rattle.executable.specs.declared.refusal.ExecutableRefusal.{ExecutableRefusal}
use Rattle.executable.specs.declared.refusal.ExecutableRefusal.TheVariants as refusal
use Rattle.program_parts.specs.declared.status.Status.{Status}
use Rattle.program_parts.specs.declared.status.Status.TheVariants.{Done, Refused, NoMemory}
use Rattle.tool_parts.specs.Said.{said_line}
use Rattle.tool_parts.specs.Streams.{Streams, CannotWrite, IsSilent, Says, SaysOnly, Tells}

-- The warning for a file whose program headers don't fit in one page of 4,096 bytes: Linux before
-- 6.17 accepts only as many program headers as fit in such a page.
abbrev pub many_headers_line : List ℕ
many_headers_line = said_line (codes "Linux before 6.17 starts no file with more than 73 program headers\n")

-- if a file is written, standard error has at most the warning, and nothing if the file has at most
-- 73 program headers
abbrev pub SaysBeside : List ℕ → Streams → Type 0
SaysBeside file io = Says io many_headers_line × (header_count file ≤ 73 → IsSilent io)

-- the status if there is no executable file: NoMemory if memory was refused, and Refused otherwise
abbrev pub executable_status : ExecutableRefusal → Status
executable_status refusal.OutOfMemory = NoMemory
executable_status other = Refused

-- exactly `file` was written, or the output failed
abbrev pub TellsFile : List ℕ → Streams → Status → Type 0
TellsFile file io status = ((status ≡ Done) × Tells io file × SaysBeside file io) ⊎ CannotWrite io status

-- exactly the image's file was written; or there is no such file, and standard error reports why
abbrev pub TellsExecutable : MemoryImage → Streams → Status → Type 0
TellsExecutable image io status =
    ((file : List ℕ) × IsExecutableOf image file × TellsFile file io status)
    ⊎ ((refusal : ExecutableRefusal) × IsAnswer image refusal × SaysOnly (executable_status refusal) (said_line (executable_refusal_text refusal)) io status)
