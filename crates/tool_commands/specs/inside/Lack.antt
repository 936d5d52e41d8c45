-- The reasons why a library's file isn't returned.
use Rattle.std.specs.Prelude.{◌≡◌, ◌≢◌, ℕ, ◌<◌, List, All, Option, Some, None, codes, length, slice_index_or, take}
use Rattle.std.specs.List.{flat_map}
use Rattle.requests.specs.Library.{IsLibrary}
use Rattle.sector_disk.specs.Disk.{DiskFacts}
use Rattle.states.specs.State.{Library, State}
use Rattle.store.specs.Stands.{no_library}
use Rattle.contents.specs.Finding.{IsFinding}
use Rattle.contents.specs.declared.finding.Finding.TheVariants.{Sound, Unreadable}
use Rattle.program_parts.specs.Said.{AppendsFront}
use Rattle.program_parts.specs.declared.status.Status.{Status}
use Rattle.program_parts.specs.declared.status.Status.TheVariants.{Done, NoMemory}
use Rattle.tool_commands.specs.Check.{finding_text}
use Rattle.tool_commands.specs.Dump.{cut_status, install_text, last_text}
use Rattle.tool_parts.specs.Said.{memory_line, said_line}
use Rattle.tool_commands.specs.declared.dump.Cut.{Cut}
use Rattle.tool_commands.specs.declared.form.Purpose.{Purpose}
use Rattle.tool_commands.specs.declared.sound.Lack.{Lack}
use Rattle.tool_commands.specs.declared.sound.Lack.TheVariants.{Found, OutOfMemory}

-- the file can't be read, or isn't a library with its entry's name, or memory was refused
abbrev pub IsLack : Library → Lack → Type 0
IsLack l (Found finding) = IsFinding l finding × (finding ≢ Sound)
IsLack l OutOfMemory = Unit {0}

-- the file of library number `k` isn't returned for this reason
abbrev pub IsCut : State → ℕ → Lack → Type 0
IsCut s k lack = (k < length s.libraries) × IsLack (slice_index_or s.libraries k no_library) lack

-- the status for a script that is cut for this reason
abbrev pub lack_status : Lack → Status
lack_status (Found finding) = cut_status finding
lack_status OutOfMemory = NoMemory

-- the message for a script that is cut at a library for this reason
abbrev pub lack_line : Library → Lack → List ℕ
lack_line l (Found finding) = said_line (finding_text l finding)
lack_line l OutOfMemory = memory_line

-- the script has all files, each of which is a library with its entry's name; or it was cut at a
-- library
abbrev pub IsGone : State → Option Cut → Type 0
IsGone s None = All IsLibrary s.libraries
IsGone s (Some cut) = IsCut s cut.position cut.lack

-- the lines for the libraries before the cut, or for all libraries if the script isn't cut
abbrev pub libraries_text : State → Option Cut → List ℕ
libraries_text s None = flat_map install_text s.libraries
libraries_text s (Some cut) = flat_map install_text (take cut.position s.libraries)

-- the text after the lines for the libraries, which depends on the purpose, the preloads and the cut
abbrev pub end_text : Purpose → List (List ℕ) → Option Cut → List ℕ
end_text purpose preloads None = last_text purpose preloads
end_text purpose preloads (Some cut) = codes "cut"

-- If the script was cut, the reason isn't the finding `Sound`. If the reason is that a library
-- can't be read, a call failed.
abbrev pub IsLacking : (old new : DiskFacts) → Option Cut → Type 0
IsLacking old new None = Unit {0}
IsLacking old new (Some cut) = (cut.lack ≢ Found Sound) × (cut.lack ≡ Found Unreadable → old.failures < new.failures)

-- if the script for these libraries was cut, standard error reports why
abbrev pub SaysCut : List Library → Option Cut → Option (List ℕ) → Option (List ℕ) → Type 0
SaysCut libraries None before after = after ≡ before
SaysCut libraries (Some cut) before after = AppendsFront before after (lack_line (slice_index_or libraries cut.position no_library) cut.lack)

-- the status of a script that may have been cut
abbrev pub dump_status : Option Cut → Status
dump_status None = Done
dump_status (Some cut) = lack_status cut.lack
