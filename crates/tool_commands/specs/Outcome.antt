-- The ends of the program with given arguments, for any contents of the file DISK (own).
use Rattle.std.specs.Prelude.{◌≡◌, ◌≢◌, ◌⊎◌, ◌<◌, ℕ, List, Option, Some, None, Bool, true, false, length}
use Rattle.std.specs.declared.io.ErrorKind.{ErrorKind}
use Rattle.std.specs.declared.io.ErrorKind.TheVariants.{OutOfMemory}
use Rattle.requests.specs.Request.{Request}
use Rattle.requests.specs.Request as request
use Rattle.file_disk.specs.FileDisk.{file_facts, IsNew}
use Rattle.file_disk.specs.Length.{IsLengthFault}
use Rattle.file_disk.specs.contracts.disk_file.DiskFileSectorFile.TheImpl.{ghosts}
use Rattle.file_disk.specs.declared.disk.FileDisk.{FileDisk}
use Rattle.file_disk.specs.declared.disk_file.DiskFile.{DiskFile}
use Rattle.file_disk.specs.declared.open.OpenFault.{OpenFault}
use Rattle.file_disk.specs.declared.open.OpenFault.TheVariants as disk_file
use Rattle.program_parts.specs.File.{read_limit}
use Rattle.program_parts.specs.Said.{AppendsFront}
use Rattle.program_parts.specs.Status.{status_number}
use Rattle.program_parts.specs.Streams as program
use Rattle.program_parts.specs.declared.file.FileFault.{FileFault}
use Rattle.program_parts.specs.declared.file.FileFault.TheVariants as read_file
use Rattle.program_parts.specs.declared.status.Status.{Status}
use Rattle.program_parts.specs.declared.status.Status.TheVariants.{Refused, BadWords, Failed, NoMemory}
use Rattle.store.specs.declared.refusal.StoreRefusal.TheVariants.{BadGeometry}
use Rattle.tool_commands.specs.Bindings.{BindingsEnds}
use Rattle.tool_commands.specs.Ends.{DiskEnds, EndsUnopened}
use Rattle.tool_commands.specs.Form.{CommandLine, Deed, Question, digest, dump, tell, replace, remove, update, executable, bindings}
use Rattle.tool_commands.specs.Request.{RequestEnds}
use Rattle.tool_commands.specs.Said.{usage_line}
use Rattle.tool_parts.specs.Said.{memory_line, refusal_line}
use Rattle.tool_parts.specs.Streams.{Streams, IsUntold, SaysOnly}
use Rattle.tool_commands.specs.declared.telling.Telling.{Telling}
use Rattle.tool_commands.specs.declared.telling.Telling.TheVariants.{Text, Executable}
use Rattle.updates.specs.Ends.{UpdateEnds}
use Rattle.updates.specs.Streams.{outputs_of}

-- the status if a file can't be opened as a disk
abbrev pub open_status : OpenFault → Status
open_status disk_file.CannotOpen = Failed
open_status (disk_file.BadLength length) = Refused
open_status disk_file.OutOfMemory = NoMemory

-- the status if a file can't be read
abbrev pub read_status : FileFault → Status
read_status read_file.CannotRead = Failed
read_status read_file.OutOfMemory = NoMemory

-- The text on standard error if a file can't be opened as a disk. It is unspecified if the file
-- can't be opened at all.
abbrev pub SaysFault : OpenFault → Option (List ℕ) → Option (List ℕ) → Type 0
SaysFault disk_file.CannotOpen before after = Unit {0}
SaysFault (disk_file.BadLength length) before after = AppendsFront before after (refusal_line BadGeometry)
SaysFault disk_file.OutOfMemory before after = AppendsFront before after memory_line

-- The text on standard error if the bytes of a file aren't available. It is unspecified if the file
-- can't be read. Otherwise it reports that memory was refused.
abbrev pub SaysUnread : FileFault → Option (List ℕ) → Option (List ℕ) → Type 0
SaysUnread read_file.CannotRead before after = Unit {0}
SaysUnread read_file.OutOfMemory before after = AppendsFront before after memory_line

-- a disk over a file of the system
abbrev pub SystemDisk : Type 0
SystemDisk = FileDisk DiskFile ghosts

-- The question is answered for a new disk over a file; or no disk was opened, and standard error
-- reports why. S6 (BadGeometry) is reported only for a length that no disk has.
abbrev pub TellEnds : Question → Streams → Status → Type 0
TellEnds question io status =
    ((disk : SystemDisk) × (left : SystemDisk) × IsNew disk × DiskEnds file_facts disk question io status left)
    ⊎ ((fault : OpenFault) × EndsUnopened question (open_status fault) io.before io.after status × SaysFault fault io.errors_before io.errors_after
    × IsLengthFault fault)

-- `Ends` holds for a new disk over a file; or no disk was opened, standard error reports why, and
-- nothing was written to the output. S6 (BadGeometry) is reported only for a length that no disk
-- has.
abbrev pub OpenEnds : (SystemDisk → SystemDisk → Type 0) → Streams → Status → Type 0
OpenEnds Ends io status =
    ((disk : SystemDisk) × (left : SystemDisk) × IsNew disk × Ends disk left)
    ⊎ ((fault : OpenFault) × (status ≡ open_status fault) × IsUntold io × SaysFault fault io.errors_before io.errors_after × IsLengthFault fault)

-- a request was made to the registry on the disk
abbrev pub AskEnds : Request → Telling → Streams → Status → Type 0
AskEnds asked telling io status = OpenEnds (λ disk left. RequestEnds file_facts disk asked telling io status left) io status

-- the form reported the bindings of the symbols of a program at `base`, with the disk's libraries
abbrev pub BindingsAskEnds : List ℕ → ℕ → Streams → Status → Type 0
BindingsAskEnds program base io status = OpenEnds (λ disk left. BindingsEnds file_facts disk program base io status left) io status

-- the bytes of a file were read, and `Ends` holds for them; or they weren't read, standard error
-- reports why, and nothing was written to the output
abbrev pub ReadEnds : (List ℕ → Type 0) → Streams → Status → Type 0
ReadEnds Ends io status =
    ((bytes : List ℕ) × (length bytes < read_limit) × Ends bytes)
    ⊎ ((fault : FileFault) × (status ≡ read_status fault) × IsUntold io × SaysUnread fault io.errors_before io.errors_after)

-- the process exits with the number of a status for which `IsSo` holds
abbrev pub ExitsWith : (Status → Type 0) → ℕ → Type 0
ExitsWith IsSo number = (status : Status) × IsSo status × (number ≡ status_number status)

-- `contents` returns the bytes that an output has, or none if the output's contract doesn't define
-- them.
module _ {O : Type 0} (contents : O → Option (List ℕ)) where
  -- an update was run over the disk
  abbrev pub UpdateAskEnds : program.Streams → Status → Type 0
  UpdateAskEnds io status = OpenEnds (λ disk left. UpdateEnds file_facts disk contents io status left) (outputs_of io) status

  -- the action of the arguments was carried out
  abbrev pub DeedEnds : Deed → program.Streams → Status → Type 0
  DeedEnds (tell question) io status = TellEnds question (outputs_of io) status
  DeedEnds (replace path) io status = ReadEnds (λ bytes. AskEnds (request.replace bytes) Text (outputs_of io) status) (outputs_of io) status
  DeedEnds (remove name) io status = AskEnds (request.remove name) Text (outputs_of io) status
  DeedEnds update io status = UpdateAskEnds io status
  DeedEnds (executable path base) io status = ReadEnds (λ bytes. AskEnds (request.bind bytes base) Executable (outputs_of io) status) (outputs_of io) status
  DeedEnds (bindings path base) io status = ReadEnds (λ bytes. BindingsAskEnds bytes base (outputs_of io) status) (outputs_of io) status

  -- If the arguments have none of the forms, exactly the usage is reported. Only such arguments
  -- lead to the status BadWords. For all other arguments, the action is carried out; or a standard
  -- stream leads, or may lead, to the disk's file, and nothing is written to the output.
  abbrev pub IsEnd : Option CommandLine → program.Streams → Status → Type 0
  IsEnd None io status = SaysOnly BadWords usage_line (outputs_of io) status
  IsEnd (Some line) io status = (status ≢ BadWords) × (DeedEnds line.deed io status ⊎ ((status ≡ Failed) × IsUntold (outputs_of io)))

  -- the process exits with the number of a status for which `IsEnd` holds
  abbrev pub LineEnds : Option CommandLine → program.Streams → ℕ → Type 0
  LineEnds line io number = ExitsWith (IsEnd line io) number

  -- The end of the program if its arguments couldn't be read. If memory was refused, exactly this
  -- is reported. Otherwise the program ends in the same way as for arguments that have none of the
  -- forms.
  abbrev pub UnreadEnds : ErrorKind → program.Streams → ℕ → Type 0
  UnreadEnds why io number =
      (why ≡ OutOfMemory → ExitsWith (SaysOnly NoMemory memory_line (outputs_of io)) number) × (why ≢ OutOfMemory → LineEnds None io number)

-- the form may write to standard error although the status is Done; only the form that writes an
-- executable file may do this
abbrev pub warns : Deed → Bool
warns (executable path base) = true
warns deed = false

-- The form may write to both the output and standard error. This is so for digests, if a library
-- can't be read; for a script that is cut; for an update that a fault ended; and for an executable
-- file.
abbrev pub says_beside : Deed → Bool
says_beside (tell digest) = true
says_beside (tell (dump purpose)) = true
says_beside update = true
says_beside deed = warns deed
