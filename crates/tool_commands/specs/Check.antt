-- The text of `check` for the libraries (own).
use Rattle.std.specs.Prelude.{◌≡◌, ℕ, ◌+◌, ◌<◌, ◌≤◌, List, ◌++◌, length, slice_index_or, Bool, true, false, if◌then◌else◌, codes}
use Rattle.std.specs.List.{list_all}
use Rattle.std.specs.Fmt.{decimal}
use Rattle.sector_disk.specs.Disk.{DiskFacts}
use Rattle.states.specs.State.{Library}
use Rattle.store.specs.Stands.{no_library}
use Rattle.text_output.specs.Name.{name_text}
use Rattle.contents.specs.Finding.{IsFinding}
use Rattle.contents.specs.declared.finding.Finding.{Finding}
use Rattle.contents.specs.declared.finding.Finding.TheVariants.{Sound, Refused, OtherName, Unreadable}
use Rattle.program_parts.specs.Refusal.{file_refusal_text}
use Rattle.program_parts.specs.declared.status.Status.{Status}
use Rattle.program_parts.specs.declared.status.Status.TheVariants as status
use Rattle.tool_commands.specs.Lines.{lines_of}

-- the line for a library named `name` that can't be read
abbrev pub unreadable_line : (name : List ℕ) → List ℕ
unreadable_line name = codes "unreadable " ++ name_text name ++ codes "\n"

-- the line with the finding for a library that has the name `name` and `length` bytes
abbrev pub finding_line : (name : List ℕ) (length : ℕ) → Finding → List ℕ
finding_line name length Sound = codes "ok " ++ name_text name ++ codes " " ++ decimal length ++ codes "\n"
finding_line name length (Refused refusal) = codes "damaged " ++ name_text name ++ codes " " ++ file_refusal_text refusal ++ codes "\n"
finding_line name length OtherName = codes "damaged " ++ name_text name ++ codes " OtherName\n"
finding_line name length Unreadable = unreadable_line name

-- the line for a library with this finding
abbrev pub finding_text : Library → Finding → List ℕ
finding_text l finding = finding_line l.name (length l.bytes) finding

-- the lines with the libraries' findings, in the order of the libraries
abbrev pub findings_text : List Library → List Finding → List ℕ
findings_text libraries findings = lines_of finding_text libraries findings

-- the whole text of `check`
abbrev pub check_text : List Library → List Finding → List ℕ
check_text libraries findings = findings_text libraries findings ++ codes "end\n"

-- There is one finding for each library, and each finding is true.
pub record AreFindings (libraries : List Library) (findings : List Finding) : Type 0 where
  pub all : length findings ≡ length libraries
  pub each : (i : ℕ) → i < length libraries → (d : Finding) → IsFinding (slice_index_or libraries i no_library) (slice_index_or findings i d)

-- at least `count` calls of the disk failed
abbrev pub HaveFailed : (old new : DiskFacts) → (count : ℕ) → Type 0
HaveFailed old new count = old.failures + count ≤ new.failures

-- the finding is `Sound`: the file is a library with its entry's name
abbrev pub is_sound : Finding → Bool
is_sound Sound = true
is_sound finding = false

-- the status of a check: Refused if a file can't be read or isn't a library with its entry's name,
-- and Done otherwise
abbrev pub check_status : List Finding → Status
check_status findings = if list_all is_sound findings then status.Done else status.Refused
